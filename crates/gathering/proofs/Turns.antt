-- One more message is heard. Assumes nothing.
use Rattle.std.proofs.Common.{◌≡◌, ℕ, ◌+◌, ◌-◌, ◌*◌, ◌^◌, ◌<◌, ◌≤◌, ◌≢◌, Bool, true, false, ◌||◌, ◌==◌, List, [], ◌∷◌, ◌++◌, Option, Some, None, if◌then◌else◌, length, slice_index_or, slice_set, take, drop, refl, sym, ap, ◌∙◌, subst, ⊎_elim, arith, length-set, get_or-set_other, get_or-set_same}
use Rattle.std.proofs.Math.ListN.{replicate}
use Rattle.std.proofs.lemmas.Bool.{false≢true, cases_eq}
use Rattle.std.proofs.lemmas.Bool.Decides.{nat_tests}
use Rattle.std.proofs.lemmas.List.{get_or-replicate, length-replicate, drop_more, take_more}
use Rattle.std.proofs.lemmas.List.Elements.{All-push}
use Rattle.std.proofs.lemmas.List.Folds.{list_any-append, list_any_at}
use Rattle.std.specs.List.{All}
use Rattle.std.specs.Option.{is_some}
use Rattle.code.proofs.Seats.{seat_apart, seat_most}
use Rattle.refusal.specs.Refusals.{Reason, earliest, wrong_lengths, no_box, no_helper, unheard}
use Rattle.refusal.specs.declared.Refusal.{Refusal}
use Rattle.gathering.specs.Gatherings.{Heard, filled, heard_by, message_reasons, missing, place, reasons, sent, with_half}
use Rattle.gathering.specs.declared.states.Message.{Message}
use Rattle.gathering.proofs.Boxes.{same_missing}
use Rattle.gathering.proofs.Reasons.{Accepted, accepted, earliest_none, earliest_some, flag_counts, right_lengths}
use Rattle.gathering.proofs.Stores.{below, length_with, half_put, half_kept}

or_true : (b : Bool) → (b || true) ≡ true
or_true true = refl
or_true false = refl

or_false : (b : Bool) → (b || false) ≡ b
or_false true = refl
or_false false = refl

module _ {S : Type 0} where
  -- a box that sent none of the messages
  sent_by_none : (before : List (Message S)) (b k : ℕ) (d : Message S) → sent before b ≡ false → k < length before → (slice_index_or before k d).helper ≢ b
  sent_by_none before b k d none l same =
      let found : ((slice_index_or before k d).helper == b) ≡ true = grind (arith, nat_tests) in
      absurd (false≢true (sym none ∙ list_any_at (λ msg. msg.helper == b) before k d l found))

  -- the box of one more message has been heard, and the others are as they were
  one_more : (flags : List Bool) (before : List (Message S)) (msg : Message S) (b : ℕ) → length flags ≡ 20 → 1 ≤ msg.helper → msg.helper ≤ 20 → 1 ≤ b → heard_by flags b ≡ sent before b
      → heard_by (slice_set flags (msg.helper - 1) true) b ≡ sent (before ++ msg ∷ []) b
  one_more flags before msg b long first last from e =
      let i = msg.helper - 1 in
      let inside : i < length flags = omega arith in
      let either = list_any-append (λ y. y.helper == b) before (msg ∷ []) in
      ⊎_elim
      (λ same.
      let found : (msg.helper == b) ≡ true = grind (arith, nat_tests) in
      ap (λ k. slice_index_or (slice_set flags i true) (k - 1) false) (sym same) ∙ get_or-set_same flags i true false inside
      ∙ sym (either ∙ ap (λ t. sent before b || (t || false)) found ∙ or_true (sent before b)))
      (λ other.
      let none : (msg.helper == b) ≡ false = grind (arith, nat_tests) in
      get_or-set_other flags i (b - 1) true false (λ same. other (omega arith)) ∙ e
      ∙ sym (either ∙ ap (λ t. sent before b || (t || false)) none ∙ or_false (sent before b)))
      (cases_eq msg.helper b)

  module _ (m x : ℕ) where
    -- why a message is declined, by the flags
    abbrev pub by_flags : List Bool → List S → Message S → List Reason
    by_flags flags store msg =
        wrong_lengths ((length msg.half.now, 2 ^ (m - 1)) ∷ (length store, (3 * m + 1) * 2 ^ (m - 1)) ∷ [])
        ∷ no_box (3 * m + 2) msg.helper ∷ no_helper x msg.helper (heard_by flags msg.helper) ∷ []

    -- Some messages were heard and the rest are still to come: flags and store say so, and the reasons
    -- and the store of all messages are those of the rest.
    pub record Midway (all : List (Message S)) (start : List S) (before rest : List (Message S)) (flags : List Bool) (store : List S) : Type 0 where
      pub flags_long : length flags ≡ 20
      pub flagged : (b : ℕ) → 1 ≤ b → b ≤ 20 → heard_by flags b ≡ sent before b
      pub heard : All (Heard m x store) before
      pub long : length store ≡ length start
      pub reasons_of_rest : earliest (reasons m x (length start) before rest) ≡ earliest (reasons m x (length start) [] all)
      pub store_of_rest : filled m x before rest store ≡ filled m x [] all start

    pub at_first : (all : List (Message S)) (start : List S) → Midway all start [] all (replicate 20 false) start
    at_first all start = record {
      flags_long = length-replicate 20 false;
      flagged = λ b first last. get_or-replicate 20 (b - 1) false false (omega arith);
      heard = λ k d l. absurd (omega arith);
      long = refl;
      reasons_of_rest = refl;
      store_of_rest = refl;
    }

    module _ (all : List (Message S)) (start : List S) (before rest : List (Message S)) (msg : Message S) (flags : List Bool) (store : List S) (few : m ≤ 6) (first : 1 ≤ x) (data_box : x ≤ 3 * m) (stands : Midway all start before (msg ∷ rest) flags store) where
      -- and so by the messages
      by_messages : (stored : ℕ) → length store ≡ stored → earliest (by_flags flags store msg) ≡ earliest (message_reasons m x stored before msg)
      by_messages stored e =
          flag_counts _ (3 * m + 2) x msg.helper _ _ (λ low high. stands.flagged msg.helper low (omega arith))
          ∙ ap (λ n. earliest (message_reasons m x n before msg)) e

      -- the store in its place, or as it was
      abbrev next : List S
      next = with_half (2 ^ (m - 1)) (place m x msg) msg.half.now store

      turned : (o : Option Refusal) → earliest (by_flags flags store msg) ≡ o → filled m x before (msg ∷ rest) store ≡ (if is_some o then store else filled m x (before ++ msg ∷ []) rest next)
      turned o e = ap (λ r. if is_some r then store else filled m x (before ++ msg ∷ []) rest next) (sym (by_messages (length store) refl) ∙ e)

      stopped : (why : Refusal) → earliest (by_flags flags store msg) ≡ Some why → (earliest (reasons m x (length start) [] all) ≡ Some why) × (filled m x [] all start ≡ store)
      stopped why e = (
        sym stands.reasons_of_rest ∙ earliest_some (message_reasons m x (length start) before msg) _ why (sym (by_messages (length start) stands.long) ∙ e),
        sym stands.store_of_rest ∙ turned (Some why) e,
      )

      module _ (passed : earliest (by_flags flags store msg) ≡ None) where
        abbrev is_accepted : Accepted ((length msg.half.now, 2 ^ (m - 1)) ∷ (length store, (3 * m + 1) * 2 ^ (m - 1)) ∷ []) (3 * m + 2) x msg.helper (heard_by flags msg.helper)
        is_accepted = accepted _ _ _ _ _ passed

        abbrev lengths : (length msg.half.now ≡ 2 ^ (m - 1)) × (length store ≡ (3 * m + 1) * 2 ^ (m - 1))
        lengths = right_lengths _ _ _ _ is_accepted.right

        inside : place m x msg * 2 ^ (m - 1) + 2 ^ (m - 1) ≤ length store
        inside =
            let a = is_accepted in
            let seated = seat_most (x - 1) (msg.helper - 1) (3 * m + 1) (omega arith) (λ same. a.other (omega arith)) (omega arith) in
            rw lengths.1 (below (place m x msg) (3 * m + 1) (2 ^ (m - 1)) seated)

        kept : (y : Message S) → Heard m x store y → y.helper ≢ msg.helper → Heard m x next y
        kept y h other =
            let a = is_accepted in
            let start : 1 ≤ msg.helper = a.first in
            let from : 1 ≤ y.helper = h.first in
            record {
              first = h.first;
              last = h.last;
              other = h.other;
              placed = half_kept (2 ^ (m - 1)) (place m x msg) msg.half.now store lengths.0 inside (place m x y)
                  (seat_apart (x - 1) (y.helper - 1) (msg.helper - 1) (λ same. h.other (omega arith)) (λ same. a.other (omega arith)) (λ same. other (omega arith)))
                  ∙ h.placed;
            }

        turn : Midway all start (before ++ msg ∷ []) rest (slice_set flags (msg.helper - 1) true) next
        turn =
            let a = is_accepted in record {
              flags_long = length-set flags (msg.helper - 1) true ∙ stands.flags_long;
              flagged = λ b low high. one_more flags before msg b stands.flags_long a.first (omega arith) low (stands.flagged b low high);
              heard = All-push (Heard m x next) before msg
                  (λ k d l. kept (slice_index_or before k d) (stands.heard k d l) (sent_by_none before msg.helper k d (sym (stands.flagged msg.helper a.first (omega arith)) ∙ a.new) l))
                  (record { first = a.first; last = a.last; other = a.other; placed = half_put (2 ^ (m - 1)) (place m x msg) msg.half.now store lengths.0 inside });
              long = length_with (2 ^ (m - 1)) (place m x msg) msg.half.now store lengths.0 inside ∙ stands.long;
              reasons_of_rest = sym (earliest_none (message_reasons m x (length start) before msg) _ (sym (by_messages (length start) stands.long) ∙ passed)) ∙ stands.reasons_of_rest;
              store_of_rest = sym (turned None passed) ∙ stands.store_of_rest;
            }

    -- the same in a walk over all messages, at message i
    module _ (all : List (Message S)) (start : List S) (i : ℕ) (msg : Message S) (flags : List Bool) (store : List S) (few : m ≤ 6) (first : 1 ≤ x) (data_box : x ≤ 3 * m) (l : i < length all) (is : msg ≡ slice_index_or all i msg) (stands : Midway all start (take i all) (drop i all) flags store) where
      here : Midway all start (take i all) (msg ∷ drop (i + 1) all) flags store
      here = subst (λ rest. Midway all start (take i all) rest flags store) (drop_more all i msg l ∙ ap (λ y. y ∷ drop (i + 1) all) (sym is)) stands

      pub stopped_at : (why : Refusal) → earliest (by_flags flags store msg) ≡ Some why → (earliest (reasons m x (length start) [] all) ≡ Some why) × (filled m x [] all start ≡ store)
      stopped_at = stopped all start (take i all) (drop (i + 1) all) msg flags store few first data_box here

      pub turn_at : (flags' : List Bool) (store' : List S) → earliest (by_flags flags store msg) ≡ None
          → flags' ≡ slice_set flags (msg.helper - 1) true → store' ≡ with_half (2 ^ (m - 1)) (place m x msg) msg.half.now store
          → Midway all start (take (i + 1) all) (drop (i + 1) all) flags' store'
      turn_at flags' store' passed ef es =
          let taken : take (i + 1) all ≡ take i all ++ msg ∷ [] = take_more all i msg l ∙ ap (λ y. take i all ++ y ∷ []) (sym is) in
          subst (λ before. Midway all start before (drop (i + 1) all) flags' store') (sym taken)
          (subst (λ f. Midway all start (take i all ++ msg ∷ []) (drop (i + 1) all) f store') (sym ef)
          (subst (λ s. Midway all start (take i all ++ msg ∷ []) (drop (i + 1) all) (slice_set flags (msg.helper - 1) true) s) (sym es)
          (turn all start (take i all) (drop (i + 1) all) msg flags store few first data_box here passed)))

-- the end of a gathering: by its own names the size is n there, and the lost box y
module _ {S : Type 0} (m x n y : ℕ) (en : n ≡ m) (ey : y ≡ x) (all : List (Message S)) (flags : List Bool) (few : m ≤ 6) (flagged : (b : ℕ) → 1 ≤ b → b ≤ 20 → heard_by flags b ≡ sent all b) where
  -- as few are missing by the flags as by the messages
  pub missing_by : missing (3 * n + 2) y (heard_by flags) ≡ missing (3 * m + 2) x (sent all)
  missing_by = (λ i. missing (3 * en i + 2) (ey i) (heard_by flags)) ∙ same_missing (3 * m + 2) x (heard_by flags) (sent all) (λ b first last. flagged b first (omega arith))

  -- what is asked at the close is asked after all messages
  pub close_reasons : (last : Reason) (stored : ℕ) → None ≡ earliest (reasons m x stored [] all)
      → earliest (unheard (missing (3 * n + 2) y (heard_by flags)) ∷ last ∷ []) ≡ earliest (reasons m x stored [] all ++ unheard (missing (3 * m + 2) x (sent all)) ∷ last ∷ [])
  close_reasons last stored heard = ap (λ t. earliest (unheard t ∷ last ∷ [])) missing_by ∙ sym (earliest_none (reasons m x stored [] all) _ (sym heard))
