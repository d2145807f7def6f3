use Rattle.std.proofs.Common.{◌≡◌, ℕ, ◌*◌, ◌^◌, ◌<◌, length}
use Rattle.code.specs.Codes.{Alike, full}
use Rattle.code.specs.Contents.{parts}
use Rattle.missing.specs.Missing.{source}
use Rattle.stripe.specs.Stripes.{held}
use Rattle.stripe_file.proofs.file.read_sources.Given as goal

-- the places below x have the columns that tell them
abbrev pub invariant-loop-x : goal.invariant-loop-x
invariant-loop-x g l =
    let s = g.S.Shelf in
    let Y = g.F.Sums.symbols in
    let v = g.F.Sums.value in
    let m = l.stripe.cabinet.size.m in
    (s.meaning l.shelf ≡ s.meaning l.initial.shelf) × (s.buffers l.shelf ≡ s.buffers l.initial.shelf) × (length l.file ≡ 3 * m * 2 ^ m)
    × ((b : ℕ) → b < l.x → Alike (full Y m) (parts Y v (2 ^ m) l.file b) (held Y v m l.stripe.from (s.meaning l.initial.shelf) (source (3 * m) l.missing b)))
