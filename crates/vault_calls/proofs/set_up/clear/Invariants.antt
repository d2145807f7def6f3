use Rattle.std.proofs.Common.{◌≡◌}
use Rattle.vault_calls.proofs.Clearing.{Below}
use Rattle.vault_calls.proofs.set_up.clear.Given as goal

-- the boxes in the places below b are cleared
abbrev pub invariant-loop-b : goal.invariant-loop-b
invariant-loop-b g l =
    let f = g.F.Sums in
    let s = g.S.Shelf in
    Below f.symbols f.value l.b (s.meaning l.fn.shelf) (s.meaning l.shelf) × (s.buffers l.shelf ≡ s.buffers l.fn.shelf)
