use Rattle.std.proofs.Common.{◌≡◌, ℕ, ◌≤◌, List, [], ◌∷◌, codes, drop, length, take, Option, Some, None, IfSome, sym, subst, ◌∙◌}
use Rattle.script.specs.Scripts.{Prints, ScriptValue, line}
use Rattle.transcripts.specs.Rounds.{IsRounds}
use Rattle.transcripts.specs.Transcripts.{symbols_of}
use Rattle.exported.specs.Written.{IsWritten}
use Rattle.exported.proofs.write_rounds.Goals as goal

-- what is at the front is the transcript
written : (text : List ℕ) (from times : ℕ) (old new transcript : List ℕ) (copied : Option ℕ)
    → (((s : ScriptValue) → ¬ (Prints s text)) → transcript ≡ line (codes "E" ∷ [])) → ((s : ScriptValue) → Prints s text → IsRounds (symbols_of s.field) s from times transcript)
    → IfSome copied (λ n. take n new ≡ transcript) → IfSome copied (λ n. n ≤ length old) → IfSome copied (λ n. drop n new ≡ drop n old) → IfSome copied (λ n. IsWritten text from times old new n)
written text from times old new transcript None none script front fits rest = tt
written text from times old new transcript (Some n) none script front fits rest = record {
  none = λ no. front ∙ none no;
  script = λ s prints. subst (λ bytes. IsRounds (symbols_of s.field) s from times bytes) (sym front) (script s prints);
  fits = fits;
  rest = rest;
}

pub returns-clause-some : goal.returns-clause-some
returns-clause-some c =
    let copied = c.copy_to_front in
    let front = subst (λ bytes. IfSome copied.result (λ n. take n copied.new.out ≡ bytes)) c.as_bytes.ensures.value copied.ensures.front in
    written c.args.text.now c.args.from c.args.times c.args.out.now copied.new.out _ copied.result c.in-Ok.ensures.none c.in-Ok.ensures.script front copied.ensures.fits copied.ensures.rest
