use Rattle.std.proofs.Common.{◌≡◌, drop}
use Rattle.shelf.specs.Calls.{after_all}
use Rattle.shelf.proofs.calls.perform_all.Given as goal

-- the calls that are left lead to where all of them do
abbrev pub invariant-loop-call : goal.invariant-loop-call
invariant-loop-call g l =
    (after_all (g.S.Shelf.meaning l.shelf) (drop l.call-index l.calls) ≡ after_all (g.S.Shelf.meaning l.fn.shelf) l.calls)
    × (g.S.Shelf.buffers l.shelf ≡ g.S.Shelf.buffers l.fn.shelf)
