-- A solver for equations in a commutative ring: both sides, written as expressions, are brought to one sorted sum of signed products, by computation. Assumes nothing.
use Rattle.std.proofs.Common.{◌≡◌, ℕ, zero, suc, Bool, true, false, not, ◌&&◌, IsTrue, ◌==◌, nat_lt, List, [], ◌∷◌, sym, refl, ap, ◌∙◌, ap₂}
use Rattle.std.proofs.Math.Bool.{beq}
use Rattle.std.proofs.lemmas.Bool.{and_parts, eqb-true, false≢true}
use Rattle.field.specs.Ring.{Ring}

infix 20 ◌≐◌
infix 15 ◌·◌
infix 10 ◌⟸◌
infixl 60 ◌⊕◌
infixl 60 ◌⊖◌
infixl 70 ◌⊗◌
infix 80 ⊝◌
pub data Ex : Type 0 where
  var : ℕ → Ex
  o i : Ex
  ◌⊕◌ ◌⊗◌ ◌⊖◌ : Ex → Ex → Ex
  ⊝◌ : Ex → Ex

-- an equation between two
pub record Eqn : Type 0 where
  pub lhs : Ex
  pub rhs : Ex

abbrev pub ◌≐◌ : Ex → Ex → Eqn
a ≐ b = record { lhs = a; rhs = b }

-- an equation taken times a factor
pub record Given : Type 0 where
  pub times : Ex
  pub fact : Eqn

-- an equation, and the equations that it follows from, with their factors
pub record Claim : Type 0 where
  pub goal : Eqn
  pub given : List Given

abbrev pub ◌·◌ : Ex → Eqn → Given
k · e = record { times = k; fact = e }

abbrev pub ◌⟸◌ : Eqn → List Given → Claim
e ⟸ gs = record { goal = e; given = gs }

-- a function of as many expressions as the list has values, and its value at the variables from k on
abbrev pub Over : Type 0 → {A : Type 0} → List A → Type 0
Over B [] = B
Over B (a ∷ xs) = Ex → Over B xs

abbrev pub at_vars : {B A : Type 0} (xs : List A) → Over B xs → ℕ → B
at_vars [] f k = f
at_vars (a ∷ xs) f k = at_vars xs (f (var k)) (suc k)

-- a signed product of variables; true: plus
pub data Tm : Type 0 where
  tm : Bool → List ℕ → Tm

abbrev pub less : List ℕ → List ℕ → Bool
less [] [] = false
less [] (y ∷ n) = true
less (x ∷ m) [] = false
less (x ∷ m) (y ∷ n) = let r = less m n in elim (nat_lt x y) [ true ↦ true | false ↦ x == y && r ]

abbrev pub same : List ℕ → List ℕ → Bool
same [] [] = true
same [] (y ∷ n) = false
same (x ∷ m) [] = false
same (x ∷ m) (y ∷ n) = x == y && same m n

abbrev pub ins_at : Bool → ℕ → ℕ → List ℕ → List ℕ → List ℕ
ins_at true x y ys r = y ∷ r
ins_at false x y ys r = x ∷ y ∷ ys

abbrev pub ins : ℕ → List ℕ → List ℕ
ins x [] = x ∷ []
ins x (y ∷ ys) = ins_at (nat_lt y x) x y ys (ins x ys)

abbrev pub mul_m : List ℕ → List ℕ → List ℕ
mul_m [] n = n
mul_m (x ∷ m) n = ins x (mul_m m n)

abbrev pub mul_t : Tm → Tm → Tm
mul_t (tm s m) (tm t n) = tm (beq s t) (mul_m m n)

abbrev pub neg_t : Tm → Tm
neg_t (tm s m) = tm (not s) m

abbrev pub cancels : Tm → Tm → Bool
cancels (tm s m) (tm t n) = not (beq s t) && same m n

abbrev pub before : Tm → Tm → Bool
before (tm s m) (tm t n) = less m n

-- t and what f makes of the rest, put among q: in front, struck out against the head, or further on
abbrev pub weave : Tm → (List Tm → List Tm) → List Tm → List Tm
weave t f [] = t ∷ f []
weave t f (u ∷ q) =
    let r = weave t f q in
    elim (before t u) [ true ↦ t ∷ f (u ∷ q) | false ↦ elim (cancels t u) [ true ↦ f q | false ↦ u ∷ r ] ]

abbrev pub add_p : List Tm → List Tm → List Tm
add_p [] q = q
add_p (t ∷ p) q = weave t (add_p p) q

abbrev pub scale_p : Tm → List Tm → List Tm
scale_p t [] = []
scale_p t (u ∷ q) = add_p (mul_t t u ∷ []) (scale_p t q)

abbrev pub mul_p : List Tm → List Tm → List Tm
mul_p [] q = []
mul_p (t ∷ p) q = add_p (scale_p t q) (mul_p p q)

abbrev pub neg_p : List Tm → List Tm
neg_p [] = []
neg_p (t ∷ p) = neg_t t ∷ neg_p p

abbrev pub norm : Ex → List Tm
norm (var x) = tm true (x ∷ []) ∷ []
norm o = []
norm i = tm true [] ∷ []
norm (a ⊕ b) = add_p (norm a) (norm b)
norm (a ⊗ b) = mul_p (norm a) (norm b)
norm (a ⊖ b) = add_p (norm a) (neg_p (norm b))
norm (⊝ a) = neg_p (norm a)

-- the sum of the given equations' differences, each times its factor
abbrev pub combined : List Given → Ex
combined [] = o
combined (g ∷ gs) = g.times ⊗ (g.fact.lhs ⊖ g.fact.rhs) ⊕ combined gs

-- the values of the variables, from a list
abbrev pub vals : {A : Type 0} → Ring A → List A → ℕ → A
vals R [] n = R.zero
vals R (a ∷ xs) zero = a
vals R (a ∷ xs) (suc n) = vals R xs n

module _ {A : Type 0} (R : Ring A) where
  infixl 60 ◌+◌
  infixl 70 ◌*◌
  open R use {zero as nil, one, plus as ◌+◌, times as ◌*◌, negative as neg, plus_comm as add_comm, plus_assoc as add_assoc, zero_plus as nil_add, plus_negative as add_neg, times_comm as mul_comm, times_assoc as mul_assoc, one_times as one-mul, times_plus as mul-add}

  abbrev pub ev : (ℕ → A) → Ex → A
  ev ρ (var x) = ρ x
  ev ρ o = nil
  ev ρ i = one
  ev ρ (a ⊕ b) = ev ρ a + ev ρ b
  ev ρ (a ⊗ b) = ev ρ a * ev ρ b
  ev ρ (a ⊖ b) = ev ρ a + neg (ev ρ b)
  ev ρ (⊝ a) = neg (ev ρ a)

  abbrev pub holds : (ℕ → A) → Eqn → Type 0
  holds ρ e = ev ρ e.lhs ≡ ev ρ e.rhs

  -- G under the given equations
  abbrev pub Under : (ℕ → A) → List Given → Type 0 → Type 0
  Under ρ [] G = G
  Under ρ (g ∷ gs) G = holds ρ g.fact → Under ρ gs G

  add_nil : (a : A) → a + nil ≡ a
  add_nil a = add_comm a nil ∙ nil_add a

  add_left_comm : (a b c : A) → a + (b + c) ≡ b + (a + c)
  add_left_comm a b c = sym (add_assoc a b c) ∙ ap (λ x. x + c) (add_comm a b) ∙ add_assoc b a c

  four : (a b c d : A) → (a + b) + (c + d) ≡ (a + c) + (b + d)
  four a b c d = add_assoc a b (c + d) ∙ ap (λ x. a + x) (add_left_comm b c d) ∙ sym (add_assoc a c (b + d))

  mul_left_comm : (a b c : A) → a * (b * c) ≡ b * (a * c)
  mul_left_comm a b c = sym (mul_assoc a b c) ∙ ap (λ x. x * c) (mul_comm a b) ∙ mul_assoc b a c

  -- what a sum with a leaves is settled by the sum
  add_back : (a b : A) → neg a + (a + b) ≡ b
  add_back a b = sym (add_assoc (neg a) a b) ∙ ap (λ x. x + b) (add_comm (neg a) a ∙ add_neg a) ∙ nil_add b

  neg_by : (a b : A) → a + b ≡ nil → b ≡ neg a
  neg_by a b e = sym (add_back a b) ∙ ap (λ x. neg a + x) e ∙ add_nil (neg a)

  neg_neg : (a : A) → neg (neg a) ≡ a
  neg_neg a = sym (neg_by (neg a) a (add_comm (neg a) a ∙ add_neg a))

  neg_nil : neg nil ≡ nil
  neg_nil = sym (neg_by nil nil (nil_add nil))

  neg_add : (a b : A) → neg (a + b) ≡ neg a + neg b
  neg_add a b = sym (neg_by (a + b) (neg a + neg b) (add_assoc a b (neg a + neg b) ∙ ap (λ x. a + x) (add_left_comm b (neg a) (neg b) ∙ ap (λ x. neg a + x) (add_neg b) ∙ add_nil (neg a)) ∙ add_neg a))

  mul_nil : (a : A) → a * nil ≡ nil
  mul_nil a = sym (add_back (a * nil) (a * nil)) ∙ ap (λ x. neg (a * nil) + x) (sym (mul-add a nil nil) ∙ ap (λ x. a * x) (nil_add nil)) ∙ add_comm (neg (a * nil)) (a * nil) ∙ add_neg (a * nil)

  mul_neg : (a b : A) → a * neg b ≡ neg (a * b)
  mul_neg a b = neg_by (a * b) (a * neg b) (sym (mul-add a b (neg b)) ∙ ap (λ x. a * x) (add_neg b) ∙ mul_nil a)

  neg_mul : (a b : A) → neg a * b ≡ neg (a * b)
  neg_mul a b = mul_comm (neg a) b ∙ mul_neg b a ∙ ap neg (mul_comm b a)

  add-mul : (a b c : A) → (a + b) * c ≡ a * c + b * c
  add-mul a b c = mul_comm (a + b) c ∙ mul-add c a b ∙ ap₂ ◌+◌ (mul_comm c a) (mul_comm c b)

  module _ (ρ : ℕ → A) where
    abbrev ev_m : List ℕ → A
    ev_m [] = one
    ev_m (x ∷ m) = ρ x * ev_m m

    abbrev ev_t : Tm → A
    ev_t (tm true m) = ev_m m
    ev_t (tm false m) = neg (ev_m m)

    abbrev ev_p : List Tm → A
    ev_p [] = nil
    ev_p (t ∷ p) = ev_t t + ev_p p

    ins_at_is : (b : Bool) (x y : ℕ) (ys r : List ℕ) → ev_m r ≡ ρ x * ev_m ys → ev_m (ins_at b x y ys r) ≡ ρ x * (ρ y * ev_m ys)
    ins_at_is true x y ys r e = ap (λ z. ρ y * z) e ∙ mul_left_comm (ρ y) (ρ x) (ev_m ys)
    ins_at_is false x y ys r e = refl

    ins_is : (x : ℕ) (m : List ℕ) → ev_m (ins x m) ≡ ρ x * ev_m m
    ins_is x [] = refl
    ins_is x (y ∷ ys) = ins_at_is (nat_lt y x) x y ys (ins x ys) (ins_is x ys)

    mul_m_is : (m n : List ℕ) → ev_m (mul_m m n) ≡ ev_m m * ev_m n
    mul_m_is [] n = sym (one-mul (ev_m n))
    mul_m_is (x ∷ m) n = ins_is x (mul_m m n) ∙ ap (λ z. ρ x * z) (mul_m_is m n) ∙ sym (mul_assoc (ρ x) (ev_m m) (ev_m n))

    mul_t_is : (t u : Tm) → ev_t (mul_t t u) ≡ ev_t t * ev_t u
    mul_t_is (tm true m) (tm true n) = mul_m_is m n
    mul_t_is (tm true m) (tm false n) = ap neg (mul_m_is m n) ∙ sym (mul_neg (ev_m m) (ev_m n))
    mul_t_is (tm false m) (tm true n) = ap neg (mul_m_is m n) ∙ sym (neg_mul (ev_m m) (ev_m n))
    mul_t_is (tm false m) (tm false n) = mul_m_is m n ∙ sym (neg_mul (ev_m m) (neg (ev_m n)) ∙ ap neg (mul_neg (ev_m m) (ev_m n)) ∙ neg_neg (ev_m m * ev_m n))

    neg_t_is : (t : Tm) → ev_t (neg_t t) ≡ neg (ev_t t)
    neg_t_is (tm true m) = refl
    neg_t_is (tm false m) = sym (neg_neg (ev_m m))

    same_is : (m n : List ℕ) → IsTrue (same m n) → m ≡ n
    same_is [] [] t = refl
    same_is [] (y ∷ n) t = absurd (false≢true t)
    same_is (x ∷ m) [] t = absurd (false≢true t)
    same_is (x ∷ m) (y ∷ n) t = let parts = and_parts (x == y) (same m n) t in ap₂ ◌∷◌ (eqb-true x y parts.0) (same_is m n parts.1)

    cancels_is : (t u : Tm) → IsTrue (cancels t u) → ev_t t + ev_t u ≡ nil
    cancels_is (tm true m) (tm true n) h = absurd (false≢true h)
    cancels_is (tm true m) (tm false n) h = ap (λ z. z + neg (ev_m n)) (ap ev_m (same_is m n h)) ∙ add_neg (ev_m n)
    cancels_is (tm false m) (tm true n) h = ap (λ z. neg z + ev_m n) (ap ev_m (same_is m n h)) ∙ add_comm (neg (ev_m n)) (ev_m n) ∙ add_neg (ev_m n)
    cancels_is (tm false m) (tm false n) h = absurd (false≢true h)

    weave_at : (b c : Bool) (t u : Tm) (v w x : List Tm) (p q : List Tm) → (IsTrue c → ev_t t + ev_t u ≡ nil)
        → ev_p v ≡ ev_p p + (ev_t u + ev_p q) → ev_p w ≡ ev_p p + ev_p q → ev_p x ≡ ev_t t + ev_p p + ev_p q
        → ev_p (elim b [ true ↦ t ∷ v | false ↦ elim c [ true ↦ w | false ↦ u ∷ x ] ]) ≡ ev_t t + ev_p p + (ev_t u + ev_p q)
    weave_at true c t u v w x p q h ev ew ex = ap (λ z. ev_t t + z) ev ∙ sym (add_assoc (ev_t t) (ev_p p) (ev_t u + ev_p q))
    weave_at false true t u v w x p q h ev ew ex =
        ew ∙ sym (nil_add (ev_p p + ev_p q)) ∙ ap (λ z. z + (ev_p p + ev_p q)) (sym (h refl)) ∙ four (ev_t t) (ev_t u) (ev_p p) (ev_p q)
    weave_at false false t u v w x p q h ev ew ex = ap (λ z. ev_t u + z) ex ∙ add_left_comm (ev_t u) (ev_t t + ev_p p) (ev_p q)

    weave_is : (t : Tm) (p : List Tm) (f : List Tm → List Tm) → ((q : List Tm) → ev_p (f q) ≡ ev_p p + ev_p q) → (q : List Tm) → ev_p (weave t f q) ≡ ev_t t + ev_p p + ev_p q
    weave_is t p f h [] = ap (λ z. ev_t t + z) (h []) ∙ sym (add_assoc (ev_t t) (ev_p p) nil)
    weave_is t p f h (u ∷ q) =
        weave_at (before t u) (cancels t u) t u (f (u ∷ q)) (f q) (weave t f q) p q (cancels_is t u) (h (u ∷ q)) (h q) (weave_is t p f h q)

    add_p_is : (p q : List Tm) → ev_p (add_p p q) ≡ ev_p p + ev_p q
    add_p_is [] q = sym (nil_add (ev_p q))
    add_p_is (t ∷ p) q = weave_is t p (add_p p) (add_p_is p) q

    scale_p_is : (t : Tm) (q : List Tm) → ev_p (scale_p t q) ≡ ev_t t * ev_p q
    scale_p_is t [] = sym (mul_nil (ev_t t))
    scale_p_is t (u ∷ q) = add_p_is (mul_t t u ∷ []) (scale_p t q) ∙ ap₂ ◌+◌ (add_nil (ev_t (mul_t t u)) ∙ mul_t_is t u) (scale_p_is t q) ∙ sym (mul-add (ev_t t) (ev_t u) (ev_p q))

    mul_p_is : (p q : List Tm) → ev_p (mul_p p q) ≡ ev_p p * ev_p q
    mul_p_is [] q = sym (mul_comm nil (ev_p q) ∙ mul_nil (ev_p q))
    mul_p_is (t ∷ p) q = add_p_is (scale_p t q) (mul_p p q) ∙ ap₂ ◌+◌ (scale_p_is t q) (mul_p_is p q) ∙ sym (add-mul (ev_t t) (ev_p p) (ev_p q))

    neg_p_is : (p : List Tm) → ev_p (neg_p p) ≡ neg (ev_p p)
    neg_p_is [] = sym neg_nil
    neg_p_is (t ∷ p) = ap₂ ◌+◌ (neg_t_is t) (neg_p_is p) ∙ sym (neg_add (ev_t t) (ev_p p))

    norm_is : (e : Ex) → ev_p (norm e) ≡ ev ρ e
    norm_is (var x) = add_nil (ρ x * one) ∙ mul_comm (ρ x) one ∙ one-mul (ρ x)
    norm_is o = refl
    norm_is i = add_nil one
    norm_is (a ⊕ b) = add_p_is (norm a) (norm b) ∙ ap₂ ◌+◌ (norm_is a) (norm_is b)
    norm_is (a ⊗ b) = mul_p_is (norm a) (norm b) ∙ ap₂ ◌*◌ (norm_is a) (norm_is b)
    norm_is (a ⊖ b) = add_p_is (norm a) (neg_p (norm b)) ∙ ap₂ ◌+◌ (norm_is a) (neg_p_is (norm b) ∙ ap neg (norm_is b))
    norm_is (⊝ a) = neg_p_is (norm a) ∙ ap neg (norm_is a)

    solve : (e : Eqn) → norm e.lhs ≡ norm e.rhs → holds ρ e
    solve e h = sym (norm_is e.lhs) ∙ ap ev_p h ∙ norm_is e.rhs

    from_given : (gs : List Given) (G : Type 0) → (ev ρ (combined gs) ≡ nil → G) → Under ρ gs G
    from_given [] G k = k refl
    from_given (g ∷ gs) G k = λ h.
        from_given gs G (λ z. k (ap₂ ◌+◌ (ap (λ x. ev ρ g.times * (x + neg (ev ρ g.fact.rhs))) h ∙ ap (λ x. ev ρ g.times * x) (add_neg (ev ρ g.fact.rhs)) ∙ mul_nil (ev ρ g.times)) z ∙ nil_add nil))

    sub_nil : (a b : A) → a + neg b ≡ nil → a ≡ b
    sub_nil a b e = sym (neg_neg a) ∙ ap neg (sym (neg_by a (neg b) e)) ∙ neg_neg b

    solve_by : (c : Claim) → norm (c.goal.lhs ⊖ c.goal.rhs) ≡ norm (combined c.given) → Under ρ c.given (holds ρ c.goal)
    solve_by c h = from_given c.given (holds ρ c.goal) (λ z. sub_nil (ev ρ c.goal.lhs) (ev ρ c.goal.rhs) (solve ((c.goal.lhs ⊖ c.goal.rhs) ≐ combined c.given) h ∙ z))

  -- `ring R (a ∷ b ∷ []) (λ x y. x ⊕ y ≐ y ⊕ x) refl : a + b ≡ b + a`, with as many variables as the list has values
  pub ring : (xs : List A) (f : Over Eqn xs) → let e = at_vars xs f 0 in norm e.lhs ≡ norm e.rhs → holds (vals R xs) e
  ring xs f h = solve (vals R xs) (at_vars xs f 0) h

  -- the same from given equations, each with the factor that it is taken times: `ring_by R (a ∷ b ∷ []) (λ x y. x ⊗ x ≐ y ⊗ y ⟸ ((x ⊕ y) · x ≐ y) ∷ []) refl h`
  pub ring_by : (xs : List A) (f : Over Claim xs) → let c = at_vars xs f 0 in norm (c.goal.lhs ⊖ c.goal.rhs) ≡ norm (combined c.given)
      → Under (vals R xs) c.given (holds (vals R xs) c.goal)
  ring_by xs f h = solve_by (vals R xs) (at_vars xs f 0) h
