use Rattle.std.proofs.Common.{◌+◌, subst}
use Rattle.code.specs.Codes.{full}
use Rattle.missing.specs.Missing.{Found, stands}
use Rattle.decoding.proofs.Fills.{file_of, kept_of}
use Rattle.decoding.proofs.decoder.fill_data.Goals as goal

pub returns-clause-file : goal.returns-clause-file
returns-clause-file g c =
    let cabinet = c.args.cabinet.now in
    let m = cabinet.size.m in
    let s = stands c.args.out.now in
    let missing = c.in_ok-missing.missing in
    file_of (full g.F.Sums.symbols m) s missing (subst (λ n. Found s (n + 2) missing) c.boxes.ensures c.in_ok-missing.ensures.boxes) (c.code_stands.ensures.cabinets m cabinet.size.some cabinet.marks) _ _ (c.fill_missing.ensures _ c.bring.ensures)

pub returns-clause-kept : goal.returns-clause-kept
returns-clause-kept g c = kept_of (full g.F.Sums.symbols c.args.cabinet.now.size.m) (stands c.args.out.now) _ _ _ _ (returns-clause-file g c)
