-- A transcript in a buffer. Assumes nothing.
use Rattle.std.specs.Prelude.{◌≡◌, ℕ, ◌≤◌, List, [], ◌∷◌, codes, drop, length, take}
use Rattle.script.specs.Scripts.{Prints, ScriptValue, line}
use Rattle.transcripts.specs.Rounds.{IsRounds}
use Rattle.transcripts.specs.Transcripts.{symbols_of}

-- The transcript of a text, whose calls from one on were made so many times more, is the first n bytes of the buffer.
pub record IsWritten (text : List ℕ) (from times : ℕ) (old new : List ℕ) (n : ℕ) : Type 0 where
  -- where no script is printed as the text, it says that there is none
  pub none : ((s : ScriptValue) → ¬ (Prints s text)) → take n new ≡ line (codes "E" ∷ [])
  -- that of a script has what the ledger answers
  pub script : (s : ScriptValue) → Prints s text → IsRounds (symbols_of s.field) s from times (take n new)
  pub fits : n ≤ length old
  -- what lies behind it stays
  pub rest : drop n new ≡ drop n old
