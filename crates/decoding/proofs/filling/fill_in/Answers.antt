use Rattle.std.proofs.Common.{◌+◌, ◌*◌}
use Rattle.code.specs.Codes.{full}
use Rattle.missing.specs.Missing.{present}
use Rattle.missing.proofs.Presence.{found_present}
use Rattle.decoding.proofs.Fills.{file_of}
use Rattle.decoding.proofs.filling.fill_in.Goals as goal

pub returns : goal.returns
returns g c =
    let cabinet = c.args.cabinet.now in
    let size = cabinet.size in
    let missing = c.args.missing in
    record { file = λ held told. file_of (full g.F.Sums.symbols size.m) (present missing) missing (found_present (3 * size.m + 2) missing c.requires.boxes) (c.code_stands.ensures.cabinets size.m size.some cabinet.marks) _ _ (c.fill_missing.ensures held told) }
