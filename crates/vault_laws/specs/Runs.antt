-- Calls of a vault one after another. Assumes nothing.
use Rattle.std.specs.Prelude.{◌≡◌, ℕ, List, [], ◌∷◌, Option}
use Rattle.field.specs.Symbols.{Symbols}
use Rattle.shelf.specs.Meaning.{Meaning}
use Rattle.ledger.specs.declared.calls.Call.{Call}
use Rattle.vault_calls.specs.Calls.{Does, Reply}

module _ (Y : Symbols) {T : Type 0} (value : T → Y.Symbol) where
  -- a call leads from one size and meaning of the shelf to others, and from there the later calls on
  pub record Then (later : Option ℕ → Meaning T → Type 0) (size : Option ℕ) (s : Meaning T) (call : Call T (List T)) (r : Reply T) : Type 0 where
    pub next_size : Option ℕ
    pub next_shelf : Meaning T
    pub does : Does Y value size s call r next_size next_shelf
    pub rest : later next_size next_shelf

  -- calls made one after another, each with what its contract says that it comes to, lead from the first size and meaning to the last
  abbrev pub Run : List (Call T (List T)) → List (Reply T) → Option ℕ → Meaning T → Option ℕ → Meaning T → Type 0
  Run [] [] size s size' s' = (size' ≡ size) × (s' ≡ s)
  Run (call ∷ calls) (r ∷ replies) size s size' s' = Then (λ next_size next_shelf. Run calls replies next_size next_shelf size' s') size s call r
  Run calls replies size s size' s' = ⊥
