-- The reasons of each call rise, and are those that fit. Assumes nothing.
use Rattle.std.proofs.Common.{◌≡◌, ℕ, ◌+◌, ◌*◌, inl, inr, Bool, false, not, ◌&&◌, ◌||◌, ◌==◌, nat_le, nat_lt, List, [], ◌∷◌, length, lit≤, refl, subst, sym}
use Rattle.std.specs.Option.{is_none}
use Rattle.field.specs.Symbols.{Symbols}
use Rattle.code.specs.Standing.{standing}
use Rattle.refusal.specs.Refusals.{any_wrong}
use Rattle.refusal.specs.declared.Refusal.{Refusal}
use Rattle.refusal.specs.declared.Refusal.TheVariants.{NotSetUp, Size, Marks, Shape, Length, NoBox, NoRow, Out, Standing, ManyOut, NotRenewable, Helper}
use Rattle.ledger.specs.Calls.{State, boxes_of, column_length, lent, reasons, size_of, stands, wanted}
use Rattle.ledger.specs.Fitting.{Fits}
use Rattle.ledger.specs.declared.calls.Call.{Call}
use Rattle.ledger.specs.declared.calls.Call.TheVariants.{SetUp, Put, Amend, Read, Column, Message, Lose, Renew, Rebuild}
use Rattle.ledger.proofs.Counts.{three, two}
use Rattle.ledger.proofs.Reasons.{Among, Rises, here, judged, later}
use Rattle.ledger.proofs.Tests.{negated, absent, wrong, outside, above, from, same, differ}

module _ (Y : Symbols) (s : State) where
  abbrev m : ℕ
  m = size_of s

  abbrev set_up : Bool × Refusal
  set_up = (is_none s.size, NotSetUp)

  abbrev box : ℕ → ℕ → Bool × Refusal
  box n b = (nat_lt b 1 || nat_lt n b, NoBox)

  abbrev three_out : Bool × Refusal
  three_out = (nat_lt (standing (stands s) (boxes_of m) + 2) (boxes_of m), ManyOut)

  module _ (T : Type 0) where
    abbrev fitting : Call T (List T) → Bool × Refusal
    fitting call = (any_wrong ((length (lent call), wanted m call) ∷ []), Length)

    -- the reasons of a call as tests
    abbrev pub tests : Call T (List T) → List (Bool × Refusal)
    tests (SetUp k) =
        (nat_lt k 1 || nat_lt 6 k, Size) ∷ (nat_lt Y.marks (2 * k), Marks)
        ∷ (not (s.boxes == boxes_of k && s.rows == column_length k), Shape) ∷ []
    tests (Put file) = set_up ∷ fitting (Put file) ∷ three_out ∷ []
    tests (Amend b a x work) = set_up ∷ fitting (Amend b a x work) ∷ box (3 * m) b ∷ (nat_le (column_length m) a, NoRow) ∷ three_out ∷ []
    tests (Read into) = set_up ∷ fitting (Read into) ∷ three_out ∷ []
    tests (Column b into) = set_up ∷ fitting (Column b into) ∷ box (boxes_of m) b ∷ (s.out b, Out) ∷ []
    tests (Message helper lost into) =
        set_up ∷ fitting (Message helper lost into) ∷ box (boxes_of m) helper ∷ box (boxes_of m) lost
        ∷ (s.out helper, Out) ∷ (nat_lt (3 * m) lost, NotRenewable) ∷ (helper == lost || false, Helper) ∷ []
    tests (Lose b) = set_up ∷ box (boxes_of m) b ∷ (s.out b, Out) ∷ []
    tests (Renew b work) =
        set_up ∷ fitting (Renew b work) ∷ box (boxes_of m) b ∷ (not (s.out b), Standing) ∷ three_out
        ∷ (nat_lt (3 * m) b, NotRenewable) ∷ (nat_lt (standing (stands s) (boxes_of m) + 1) (boxes_of m), NotRenewable) ∷ []
    tests (Rebuild work) = set_up ∷ fitting (Rebuild work) ∷ three_out ∷ []

    pub are_tests : (call : Call T (List T)) → reasons Y s call ≡ judged (tests call)
    are_tests (SetUp k) = refl
    are_tests (Put file) = refl
    are_tests (Amend b a x work) = refl
    are_tests (Read into) = refl
    are_tests (Column b into) = refl
    are_tests (Message helper lost into) = refl
    are_tests (Lose b) = refl
    are_tests (Renew b work) = refl
    are_tests (Rebuild work) = refl

    pub rises : (call : Call T (List T)) → Rises 1 (tests call)
    rises (SetUp k) = (lit≤ tt, (lit≤ tt, (lit≤ tt, tt)))
    rises (Put file) = (lit≤ tt, (lit≤ tt, (lit≤ tt, tt)))
    rises (Amend b a x work) = (lit≤ tt, (lit≤ tt, (lit≤ tt, (lit≤ tt, (lit≤ tt, tt)))))
    rises (Read into) = (lit≤ tt, (lit≤ tt, (lit≤ tt, tt)))
    rises (Column b into) = (lit≤ tt, (lit≤ tt, (lit≤ tt, (lit≤ tt, tt))))
    rises (Message helper lost into) = (lit≤ tt, (lit≤ tt, (lit≤ tt, (lit≤ tt, (lit≤ tt, (lit≤ tt, (lit≤ tt, tt)))))))
    rises (Lose b) = (lit≤ tt, (lit≤ tt, (lit≤ tt, tt)))
    rises (Renew b work) = (lit≤ tt, (lit≤ tt, (lit≤ tt, (lit≤ tt, (lit≤ tt, (lit≤ tt, (lit≤ tt, tt)))))))
    rises (Rebuild work) = (lit≤ tt, (lit≤ tt, (lit≤ tt, tt)))

    set_up_fits : (k : ℕ) (why : Refusal) → Among (tests (SetUp k)) why → Fits Y s {T = T} why (SetUp k)
    set_up_fits k why (here e) = (outside 6 k).if_true e
    set_up_fits k why (later (here e)) = (above _ _).if_true e
    set_up_fits k why (later (later (here e))) = (differ _ _ _ _).if_true e
    set_up_fits k why (later (later (later a))) = elim a [ ]

    set_up_among : (k : ℕ) (why : Refusal) → Fits Y s {T = T} why (SetUp k) → Among (tests (SetUp k)) why
    set_up_among k Size h = here ((outside 6 k).if_holds h)
    set_up_among k Marks h = later (here ((above _ _).if_holds h))
    set_up_among k Shape h = later (later (here ((differ _ _ _ _).if_holds h)))
    set_up_among k why h = absurd h

    amend_fits : (b a : ℕ) (x : T) (work : List T) (why : Refusal) → Among (tests (Amend b a x work)) why → Fits Y s why (Amend b a x work)
    amend_fits b a x work why (here e) = (absent s.size).if_true e
    amend_fits b a x work why (later (here e)) = (wrong _ _).if_true e
    amend_fits b a x work why (later (later (here e))) = (outside _ b).if_true e
    amend_fits b a x work why (later (later (later (here e)))) = (from _ a).if_true e
    amend_fits b a x work why (later (later (later (later (here e))))) = (three s).if_true e
    amend_fits b a x work why (later (later (later (later (later z))))) = elim z [ ]

    amend_among : (b a : ℕ) (x : T) (work : List T) (why : Refusal) → Fits Y s why (Amend b a x work) → Among (tests (Amend b a x work)) why
    amend_among b a x work NotSetUp h = here ((absent s.size).if_holds h)
    amend_among b a x work Length h = later (here ((wrong _ _).if_holds h))
    amend_among b a x work NoBox h = later (later (here ((outside _ b).if_holds h)))
    amend_among b a x work NoRow h = later (later (later (here ((from _ a).if_holds h))))
    amend_among b a x work ManyOut h = later (later (later (later (here ((three s).if_holds h)))))
    amend_among b a x work why h = absurd h

    column_fits : (b : ℕ) (into : List T) (why : Refusal) → Among (tests (Column b into)) why → Fits Y s why (Column b into)
    column_fits b into why (here e) = (absent s.size).if_true e
    column_fits b into why (later (here e)) = (wrong _ _).if_true e
    column_fits b into why (later (later (here e))) = (outside _ b).if_true e
    column_fits b into why (later (later (later (here e)))) = e
    column_fits b into why (later (later (later (later a)))) = elim a [ ]

    column_among : (b : ℕ) (into : List T) (why : Refusal) → Fits Y s why (Column b into) → Among (tests (Column b into)) why
    column_among b into NotSetUp h = here ((absent s.size).if_holds h)
    column_among b into Length h = later (here ((wrong _ _).if_holds h))
    column_among b into NoBox h = later (later (here ((outside _ b).if_holds h)))
    column_among b into Out h = later (later (later (here (h))))
    column_among b into why h = absurd h

    message_fits : (helper lost : ℕ) (into : List T) (why : Refusal) → Among (tests (Message helper lost into)) why → Fits Y s why (Message helper lost into)
    message_fits helper lost into why (here e) = (absent s.size).if_true e
    message_fits helper lost into why (later (here e)) = (wrong _ _).if_true e
    message_fits helper lost into why (later (later (here e))) = inl ((outside _ helper).if_true e)
    message_fits helper lost into why (later (later (later (here e)))) = inr ((outside _ lost).if_true e)
    message_fits helper lost into why (later (later (later (later (here e))))) = e
    message_fits helper lost into why (later (later (later (later (later (here e)))))) = (above _ lost).if_true e
    message_fits helper lost into why (later (later (later (later (later (later (here e))))))) = (same lost helper).if_true e
    message_fits helper lost into why (later (later (later (later (later (later (later a))))))) = elim a [ ]

    message_among : (helper lost : ℕ) (into : List T) (why : Refusal) → Fits Y s why (Message helper lost into) → Among (tests (Message helper lost into)) why
    message_among helper lost into NotSetUp h = here ((absent s.size).if_holds h)
    message_among helper lost into Length h = later (here ((wrong _ _).if_holds h))
    message_among helper lost into NoBox (inl h) = later (later (here ((outside _ helper).if_holds h)))
    message_among helper lost into NoBox (inr h) = later (later (later (here ((outside _ lost).if_holds h))))
    message_among helper lost into Out h = later (later (later (later (here (h)))))
    message_among helper lost into NotRenewable h = later (later (later (later (later (here ((above _ lost).if_holds h))))))
    message_among helper lost into Helper h = later (later (later (later (later (later (here ((same lost helper).if_holds h)))))))
    message_among helper lost into why h = absurd h

    lose_fits : (b : ℕ) (why : Refusal) → Among (tests (Lose b)) why → Fits Y s {T = T} why (Lose b)
    lose_fits b why (here e) = (absent s.size).if_true e
    lose_fits b why (later (here e)) = (outside _ b).if_true e
    lose_fits b why (later (later (here e))) = e
    lose_fits b why (later (later (later a))) = elim a [ ]

    lose_among : (b : ℕ) (why : Refusal) → Fits Y s {T = T} why (Lose b) → Among (tests (Lose b)) why
    lose_among b NotSetUp h = here ((absent s.size).if_holds h)
    lose_among b NoBox h = later (here ((outside _ b).if_holds h))
    lose_among b Out h = later (later (here (h)))
    lose_among b why h = absurd h

    renew_fits : (b : ℕ) (work : List T) (why : Refusal) → Among (tests (Renew b work)) why → Fits Y s why (Renew b work)
    renew_fits b work why (here e) = (absent s.size).if_true e
    renew_fits b work why (later (here e)) = (wrong _ _).if_true e
    renew_fits b work why (later (later (here e))) = (outside _ b).if_true e
    renew_fits b work why (later (later (later (here e)))) = (negated (s.out b)).if_true e
    renew_fits b work why (later (later (later (later (here e))))) = (three s).if_true e
    renew_fits b work why (later (later (later (later (later (here e)))))) = inl ((above _ b).if_true e)
    renew_fits b work why (later (later (later (later (later (later (here e))))))) = inr ((two s).if_true e)
    renew_fits b work why (later (later (later (later (later (later (later a))))))) = elim a [ ]

    renew_among : (b : ℕ) (work : List T) (why : Refusal) → Fits Y s why (Renew b work) → Among (tests (Renew b work)) why
    renew_among b work NotSetUp h = here ((absent s.size).if_holds h)
    renew_among b work Length h = later (here ((wrong _ _).if_holds h))
    renew_among b work NoBox h = later (later (here ((outside _ b).if_holds h)))
    renew_among b work Standing h = later (later (later (here ((negated (s.out b)).if_holds h))))
    renew_among b work ManyOut h = later (later (later (later (here ((three s).if_holds h)))))
    renew_among b work NotRenewable (inl h) = later (later (later (later (later (here ((above _ b).if_holds h))))))
    renew_among b work NotRenewable (inr h) = later (later (later (later (later (later (here ((two s).if_holds h)))))))
    renew_among b work why h = absurd h

    read_fits : (into : List T) (why : Refusal) → Among (tests (Read into)) why → Fits Y s why (Read into)
    read_fits into why (here e) = (absent s.size).if_true e
    read_fits into why (later (here e)) = (wrong _ _).if_true e
    read_fits into why (later (later (here e))) = (three s).if_true e
    read_fits into why (later (later (later a))) = elim a [ ]

    read_among : (into : List T) (why : Refusal) → Fits Y s why (Read into) → Among (tests (Read into)) why
    read_among into NotSetUp h = here ((absent s.size).if_holds h)
    read_among into Length h = later (here ((wrong _ _).if_holds h))
    read_among into ManyOut h = later (later (here ((three s).if_holds h)))
    read_among into why h = absurd h

    -- a put, a read and a rebuild are declined alike
    put_as_read : (file : List T) (why : Refusal) → Fits Y s why (Read file) ≡ Fits Y s why (Put file)
    put_as_read file NotSetUp = refl
    put_as_read file why = refl

    rebuild_as_read : (work : List T) (why : Refusal) → Fits Y s why (Read work) ≡ Fits Y s why (Rebuild work)
    rebuild_as_read work NotSetUp = refl
    rebuild_as_read work why = refl

    -- what holds of a call's tests is what fits the call
    pub fits : (call : Call T (List T)) (why : Refusal) → Among (tests call) why → Fits Y s why call
    fits (SetUp k) = set_up_fits k
    fits (Put file) = λ why a. subst (λ X. X) (put_as_read file why) (read_fits file why a)
    fits (Amend b a x work) = amend_fits b a x work
    fits (Read into) = read_fits into
    fits (Column b into) = column_fits b into
    fits (Message helper lost into) = message_fits helper lost into
    fits (Lose b) = lose_fits b
    fits (Renew b work) = renew_fits b work
    fits (Rebuild work) = λ why a. subst (λ X. X) (rebuild_as_read work why) (read_fits work why a)

    pub among : (call : Call T (List T)) (why : Refusal) → Fits Y s why call → Among (tests call) why
    among (SetUp k) = set_up_among k
    among (Put file) = λ why h. read_among file why (subst (λ X. X) (sym (put_as_read file why)) h)
    among (Amend b a x work) = amend_among b a x work
    among (Read into) = read_among into
    among (Column b into) = column_among b into
    among (Message helper lost into) = message_among helper lost into
    among (Lose b) = lose_among b
    among (Renew b work) = renew_among b work
    among (Rebuild work) = λ why h. read_among work why (subst (λ X. X) (sym (rebuild_as_read work why)) h)
