-- Lemmas on what moves in a stripe, one write after another. Assumes nothing.
use Rattle.std.proofs.Common.{◌≡◌, ◌≢◌, ℕ, suc, ◌+◌, ◌*◌, ◌^◌, ◌<◌, ◌⊎◌, ⊎_elim, Bool, true, false, ◌&&◌, ◌||◌, ◌==◌, Some, None, is_some, sym, refl, ap, ap₂, ◌∙◌, subst, inl, inr, true≢false, arith, tests, Option, MatchOption, IsNone, IsSomeAnd}
use Rattle.std.proofs.lemmas.Bool.{cases_eq, or_parts}
use Rattle.field.specs.Symbols.{Symbols}
use Rattle.shelf.specs.Laws.{Stored}
use Rattle.shelf.specs.Meaning.{IsShelf, Meaning, box_count, has_row, is_standing, symbol_at, with_symbol}
use Rattle.shelf.proofs.Meanings.{symbol_at_there}
use Rattle.stripe.specs.Stripes.{OnlyStripe, has_stripe, held, stands}
use Rattle.stripe.proofs.Held.{at_row, only_then, symbol_same}
use Rattle.amending.specs.Amendments.{with_cell}
use Rattle.amending.specs.Changes.{Moved, single}

only_same : {T : Type 0} (m from : ℕ) (s t : Meaning T) → t ≡ s → OnlyStripe m from s t
only_same m from s t e = record {
  boxes = ap (λ u. box_count u) e;
  rows = ap (λ u. u.rows) e;
  stand = λ b. ap (λ u. is_standing u b) e;
  elsewhere = λ b a h. ap (λ u. symbol_at u b a) e;
}

-- a place is the one named, or another
pub by_place : {A : Type 0} (b a e r : ℕ) → ((e ≡ b) × (r ≡ a) → A) → ((e ≢ b) ⊎ (r ≢ a) → A) → A
by_place b a e r here there =
    ⊎_elim (λ p. ⊎_elim (λ q. here (p, q)) (λ n. there (inr n)) (cases_eq r a)) (λ n. there (inl n)) (cases_eq e b)

module _ (Y : Symbols) where
  pub plus_none : (x : Y.Symbol) → Y.ring.plus x Y.ring.zero ≡ x
  plus_none x = Y.ring.plus_comm x Y.ring.zero ∙ Y.ring.zero_plus x

  pub single_here : (b a : ℕ) (d : Y.Symbol) (e r : ℕ) → e ≡ b → r ≡ a → single Y b a d e r ≡ d
  single_here b a d e r p q = grind (arith, tests)

  pub single_else : (b a : ℕ) (d : Y.Symbol) (e r : ℕ) → (e ≢ b) ⊎ (r ≢ a) → single Y b a d e r ≡ Y.ring.zero
  single_else b a d e r n = grind (arith, tests)

  -- a file with one cell set, in that cell and in the others
  pub cell_here : (b a : ℕ) (x : Y.Symbol) (f : ℕ → ℕ → Y.Symbol) (e r : ℕ) → e ≡ b → r ≡ a → with_cell Y b a x f e r ≡ x
  cell_here b a x f e r p q = grind (arith, tests)

  pub cell_else : (b a : ℕ) (x : Y.Symbol) (f : ℕ → ℕ → Y.Symbol) (e r : ℕ) → (e ≢ b) ⊎ (r ≢ a) → with_cell Y b a x f e r ≡ f e r
  cell_else b a x f e r n = grind (arith, tests)

  module _ {T : Type 0} (v : T → Y.Symbol) (m from : ℕ) where
    -- one after the other
    pub moved_then : (p q : ℕ → ℕ → Y.Symbol) (f g : ℕ → ℕ → Bool) (s t u : Meaning T) → Moved Y v m from p f s t → Moved Y v m from q g t u
        → Moved Y v m from (λ b a. Y.ring.plus (p b a) (q b a)) (λ b a. f b a || g b a) s u
    moved_then p q f g s t u x y = record {
      symbols = λ b h w a l.
          y.symbols b h (x.only.stand (suc b) ∙ w) a l ∙ ap (λ z. Y.ring.plus z (q b a)) (x.symbols b h w a l)
          ∙ Y.ring.plus_assoc (held Y v m from s b a) (p b a) (q b a);
      untouched = λ b a l n. y.untouched b a l (or_parts (f b a) (g b a) n).1 ∙ x.untouched b a l (or_parts (f b a) (g b a) n).0;
      only = only_then m from s t u x.only y.only;
    }

    -- the same in other words
    pub moved_as : (p q : ℕ → ℕ → Y.Symbol) (f g : ℕ → ℕ → Bool) (s t : Meaning T) → Moved Y v m from p f s t → ((b : ℕ) → b < 3 * m + 2 → (a : ℕ) → a < 2 ^ m → p b a ≡ q b a)
        → ((b a : ℕ) → g b a ≡ false → f b a ≡ false) → Moved Y v m from q g s t
    moved_as p q f g s t x same fewer = record {
      symbols = λ b h w a l. x.symbols b h w a l ∙ ap (Y.ring.plus (held Y v m from s b a)) (same b h a l);
      untouched = λ b a l n. x.untouched b a l (fewer b a n);
      only = x.only;
    }

    -- a symbol is stored with d added to it
    module _ (s t : Meaning T) (b a : ℕ) (d : Y.Symbol) (k : IsShelf s) (has : has_stripe m from s ≡ true) (row : a < 2 ^ m) where
      row_there : stands s b ≡ true → has_row s (suc b) (from + a) ≡ true
      row_there w = grind (arith, tests)

      stays : (e r : ℕ) → r < 2 ^ m → (e ≢ b) ⊎ (r ≢ a) → symbol_at t (suc e) (from + r) ≡ symbol_at s (suc e) (from + r)
          → held Y v m from t e r ≡ Y.ring.plus (held Y v m from s e r) (single Y b a d e r)
      stays e r l n q =
          symbol_same Y v m from t s e r l q ∙ sym (ap (Y.ring.plus (held Y v m from s e r)) (single_else b a d e r n) ∙ plus_none (held Y v m from s e r))

      moved_store : (x y : T) → symbol_at s (suc b) (from + a) ≡ Some x → v y ≡ Y.ring.plus (v x) d → t ≡ with_symbol s (suc b) (from + a) y → Stored s (with_symbol s (suc b) (from + a) y) (suc b) (from + a) y
          → Moved Y v m from (single Y b a d) (λ e r. e == b && r == a) s t
      moved_store x y there sum put stored = record {
        symbols = λ e h w r l. by_place b a e r
            (λ p.
            let now : symbol_at t (suc e) (from + r) ≡ Some y =
            ap (λ u. symbol_at u (suc e) (from + r)) put ∙ ap₂ (λ i j. symbol_at (with_symbol s (suc b) (from + a) y) (suc i) (from + j)) p.0 p.1
            ∙ stored.here (row_there (ap (stands s) (sym p.0) ∙ w))
            in
            let before : symbol_at s (suc e) (from + r) ≡ Some x = ap₂ (λ i j. symbol_at s (suc i) (from + j)) p.0 p.1 ∙ there in
            at_row Y v t (suc e) from (2 ^ m) r y l now ∙ sum
            ∙ ap₂ Y.ring.plus (sym (at_row Y v s (suc e) from (2 ^ m) r x l before)) (sym (single_here b a d e r p.0 p.1)))
            (λ n. stays e r l n (elsewhere e r n));
        untouched = λ e r l n. elsewhere e r (by_place b a e r (λ p. absurd (in_place e r p n)) (λ q. q));
        only = record {
          boxes = ap box_count put ∙ stored.sizes.boxes;
          rows = ap (λ u. u.rows) put ∙ stored.sizes.rows;
          stand = λ e. ap (λ u. is_standing u e) put ∙ stored.boxes e;
          elsewhere = λ e r o. ap (λ u. symbol_at u e r) put ∙ stored.elsewhere e r (inr (⊎_elim (λ z q. omega arith) (λ z q. omega arith) o));
        };
      }
        where
          elsewhere : (e r : ℕ) → (e ≢ b) ⊎ (r ≢ a) → symbol_at t (suc e) (from + r) ≡ symbol_at s (suc e) (from + r)
          elsewhere e r n = ap (λ u. symbol_at u (suc e) (from + r)) put ∙ stored.elsewhere (suc e) (from + r) (⊎_elim (λ p. inl (λ q. p (omega arith))) (λ p. inr (λ q. p (omega arith))) n)

          in_place : (e r : ℕ) → (e ≡ b) × (r ≡ a) → (e == b && r == a) ≡ false → ⊥
          in_place e r p n = let i = p.0 in let j = p.1 in grind (arith, tests)

      -- or is not there
      moved_absent : symbol_at s (suc b) (from + a) ≡ None → t ≡ s → Moved Y v m from (single Y b a d) (λ e r. e == b && r == a) s t
      moved_absent out same = record {
        symbols = λ e h w r l. by_place b a e r
            (λ p.
            let there = symbol_at_there s k (suc b) (from + a) (row_there (ap (stands s) (sym p.0) ∙ w)) in
            let q : None ≡ Some there.0 = sym out ∙ there.1 in
            absurd (true≢false (sym (ap is_some q))))
            (λ n. stays e r l n (ap (λ u. symbol_at u (suc e) (from + r)) same));
        untouched = λ e r l n. ap (λ u. symbol_at u (suc e) (from + r)) same;
        only = only_same m from s t same;
      }

      -- the same, as the program tells it
      pub moved_told : (n : ℕ) → n ≡ suc b → (o : Option T) → MatchOption (symbol_at s n (from + a)) (IsNone o) (λ x. IsSomeAnd o (λ y. v y ≡ Y.ring.plus (v x) d))
          → MatchOption o (t ≡ s) (λ y. t ≡ with_symbol s n (from + a) y) → ((y : T) → Stored s (with_symbol s n (from + a) y) n (from + a) y)
          → Moved Y v m from (single Y b a d) (λ e r. e == b && r == a) s t
      moved_told n en o sum after stored =
          by (symbol_at s (suc b) (from + a)) refl o (subst (λ i. MatchOption (symbol_at s i (from + a)) (IsNone o) (λ x. IsSomeAnd o (λ y. v y ≡ Y.ring.plus (v x) d))) en sum)
          (subst (λ i. MatchOption o (t ≡ s) (λ y. t ≡ with_symbol s i (from + a) y)) en after)
          (subst (λ i. (y : T) → Stored s (with_symbol s i (from + a) y) i (from + a) y) en stored)
        where
          by : (there : Option T) → symbol_at s (suc b) (from + a) ≡ there → (o : Option T) → MatchOption there (IsNone o) (λ x. IsSomeAnd o (λ y. v y ≡ Y.ring.plus (v x) d))
              → MatchOption o (t ≡ s) (λ y. t ≡ with_symbol s (suc b) (from + a) y) → ((y : T) → Stored s (with_symbol s (suc b) (from + a) y) (suc b) (from + a) y)
              → Moved Y v m from (single Y b a d) (λ e r. e == b && r == a) s t
          by None q None none same k = moved_absent q same
          by None q (Some y) none put k = absurd (true≢false none)
          by (Some x) q None none same k = absurd none
          by (Some x) q (Some y) sum put k = moved_store x y q sum put (k y)
