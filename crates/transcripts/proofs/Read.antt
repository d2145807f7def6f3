-- What is known of a script that was read. Assumes nothing.
use Rattle.std.proofs.Common.{◌≡◌, List, ℕ, Option, Some, IfSome, option_map, sym, ap, subst, ◌∙◌}
use Rattle.std.specs.List.{AllByRecursion}
use Rattle.script.specs.Scripts.{IsCommand, Prints, ScriptValue, script_value, size}
use Rattle.script.specs.declared.commands.FieldName.{FieldName}
use Rattle.script.specs.declared.commands.Script.{Script}
use Rattle.transcripts.specs.Rounds.{IsRounds}
use Rattle.transcripts.specs.Transcripts.{symbols_of}

module _ (text : List ℕ) (read : Option Script) (script : Script) (is : read ≡ Some script) where
  pub prints : IfSome read (λ s. Prints (script_value s) text) → Prints (script_value script) text
  prints p = subst (λ o. IfSome o (λ s. Prints (script_value s) text)) is p

  -- its commands take symbols of its field
  pub commands_take : (field : FieldName) → script.field ≡ field → IfSome read (λ s. Prints (script_value s) text) → AllByRecursion (IsCommand (size field)) (script_value script).commands
  commands_take field of p = subst (λ f. AllByRecursion (IsCommand (size f)) (script_value script).commands) of (prints p).script.each

  -- its rounds are those of each script that is printed as the text
  pub rounds_of : (from times : ℕ) (field : FieldName) (bytes : List ℕ) → script.field ≡ field → ((s : ScriptValue) → Prints s text → option_map script_value read ≡ Some s)
      → IsRounds (symbols_of field) (script_value script) from times bytes → (s : ScriptValue) → Prints s text → IsRounds (symbols_of s.field) s from times bytes
  rounds_of from times field bytes of only r s p =
      let same : Some (script_value script) ≡ Some s = ap (option_map script_value) (sym is) ∙ only s p in
      let e : script_value script ≡ s = cc in
      subst (λ v. IsRounds (symbols_of v.field) v from times bytes) e (subst (λ f. IsRounds (symbols_of f) (script_value script) from times bytes) (sym of) r)
