use Rattle.std.proofs.Common.{◌≡◌, take, drop, length, map}
use Rattle.vault_laws.specs.Runs.{Run}
use Rattle.vault_runs.specs.Entries.{bare, calls, replies}
use Rattle.vault_runs.proofs.run.Given as goal

-- the calls up to this one were made, and those from it on not yet
abbrev pub invariant-loop-entry : goal.invariant-loop-entry
invariant-loop-entry g l =
    let f = g.F.Sums in
    let s = g.S.Shelf in
    let i = l.entry-index in
    Run f.symbols f.value (calls (take i l.fn.entries)) (replies (take i l.entries)) l.fn.vault.size (s.meaning l.fn.vault.shelf) l.vault.size (s.meaning l.vault.shelf)
    × (map bare (calls (take i l.entries)) ≡ map bare (calls (take i l.fn.entries)))
    × (drop i l.entries ≡ drop i l.fn.entries)
    × (length l.entries ≡ length l.fn.entries)
    × (s.buffers l.vault.shelf ≡ s.buffers l.fn.vault.shelf)
