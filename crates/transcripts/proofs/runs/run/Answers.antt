use Rattle.std.proofs.Common.{◌≡◌, map, subst, sym, ap₂, ◌∙◌}
use Rattle.std.proofs.lemmas.Result.{IfOk-weaker}
use Rattle.std.specs.String.{string_bytes}
use Rattle.script.specs.Scripts.{command_value, script_value}
use Rattle.vault_laws.specs.Laws.{VaultLaw}
use Rattle.vault_runs.specs.Entries.{bare, calls, replies}
use Rattle.transcripts.specs.Calls.{calls_of, numbered_call}
use Rattle.transcripts.specs.Lines.{lines}
use Rattle.transcripts.specs.Entries.{IsAt, called, came_to}
use Rattle.transcripts.proofs.Lists.{written}
use Rattle.transcripts.proofs.Turns.{begins, begun, prints}
use Rattle.transcripts.proofs.runs.run.Goals as goal

pub returns : goal.returns
returns g c =
    let f = g.F.Sums in
    let s = g.S.Shelf in
    let script = script_value c.args.script.now in
    let asked = c.in_ok-entries.entries.items in
    let are = subst (λ cs. map (λ e. numbered_call f.symbols (called f.symbols f.value e)) asked ≡ calls_of f.symbols script.m (map command_value cs)) c.deref.ensures.value c.in_ok-entries.ensures in
    let shelf = s.meaning c.args.shelf in
    let vault = c.run_new-vault.result in
    let made = c.run_new-vault.new.entries in
    let last = c.make_turns.new.entries in
    let law = subst (λ es. VaultLaw f.symbols f.value shelf (calls es) (replies made) vault.size (s.meaning vault.shelf)) c.deref_mut.ensures.value c.run_new-vault.ensures.law in
    let same = subst (λ es. map bare (calls made) ≡ map bare (calls es)) c.deref_mut.ensures.value c.run_new-vault.ensures.calls in
    let first = begins f.symbols f.value script shelf asked c.requires.shelf are (s.meaning vault.shelf) vault.size made law same in
    let made_whole : c.deref_mut-2.result.now ≡ made = written _ made _ c.deref_mut-2.result.now c.deref_mut-2.ensures.value (c.run_new-vault.auto.entries ∙ c.deref_mut.ensures.len) in
    let begun_at = begun f.symbols f.value script shelf asked c.requires.shelf are in
    let at = c.make_turns.ensures begun_at (subst (λ es. IsAt f.symbols f.value begun_at vault.size (s.meaning vault.shelf) es) (sym made_whole) first) in
    let last_whole : c.deref-3.result.now ≡ last = written _ last _ c.deref-3.result.now c.deref-3.ensures.value (c.make_turns.auto.entries ∙ c.deref_mut-2.ensures.len) in
    IfOk-weaker c.lines.result _ _
    (λ out printed.
    prints f.symbols f.value script shelf asked c.requires.shelf are c.args.again.from c.args.again.times (s.meaning c.make_turns.new.vault.shelf) c.make_turns.new.vault.size last (string_bytes out) at
    (printed ∙ ap₂ (λ commands entries. lines (map command_value commands) (map (came_to f.symbols f.value) entries)) c.deref-2.ensures.value last_whole))
    c.lines.ensures
