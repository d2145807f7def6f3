use Rattle.transcripts.specs.Entries.{IsAt}
use Rattle.transcripts.specs.Rounds.{Round, turns}
use Rattle.transcripts.proofs.runs.make_turns.Given as goal

-- so many turns were made
abbrev pub invariant-loop : goal.invariant-loop
invariant-loop g l =
    let f = g.F.Sums in
    let s = g.S.Shelf in
    (r : Round f.symbols) → IsAt f.symbols f.value r l.fn.vault.size (s.meaning l.fn.vault.shelf) l.fn.entries
    → IsAt f.symbols f.value (turns f.symbols l.again.from l.counter r) l.vault.size (s.meaning l.vault.shelf) l.entries
