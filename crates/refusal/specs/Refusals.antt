-- Why a call is declined. Assumes nothing.
use Rattle.std.specs.Prelude.{ℕ, codes, ◌*◌, Bool, not, ◌||◌, List, [], ◌∷◌, Some, None, Ok, Err, Option, Result, ◌==◌, if◌then◌else◌, nat_lt}
use Rattle.std.specs.List.{list_any}
use Rattle.field.specs.Symbols.{Symbols}
use Rattle.refusal.specs.declared.Refusal.{Refusal}
use Rattle.refusal.specs.declared.Refusal.TheVariants.{NotSetUp, Size, Marks, Shape, Length, NoBox, NoRow, Out, Standing, ManyOut, NotRenewable, Helper, Unheard}

-- the number of each refusal
abbrev pub number : Refusal → ℕ
number NotSetUp = 1
number Size = 2
number Marks = 3
number Shape = 4
number Length = 5
number NoBox = 6
number NoRow = 7
number Out = 8
number Standing = 9
number ManyOut = 10
number NotRenewable = 11
number Helper = 12
number Unheard = 13

-- the text that each is printed as
abbrev pub text : Refusal → List ℕ
text NotSetUp = codes "the vault is not set up"
text Size = codes "the size is outside 1 to 6"
text Marks = codes "the field has too few marks"
text Shape = codes "the shelf has other boxes or rows"
text Length = codes "a buffer has the wrong length"
text NoBox = codes "there is no box of that number"
text NoRow = codes "there is no row of that number"
text Out = codes "the box is out"
text Standing = codes "the box stands"
text ManyOut = codes "three or more boxes are out"
text NotRenewable = codes "the box is a parity box, or a second box is out"
text Helper = codes "the helper is the lost box, or has been heard already"
text Unheard = codes "a helper has not been heard yet"

-- a reason: the refusal, where it fits
abbrev pub Reason : Type 0
Reason = Option Refusal

-- the refusal of the first reason that fits
abbrev pub earliest : List Reason → Option Refusal
earliest [] = None
earliest (None ∷ rs) = earliest rs
earliest (Some why ∷ rs) = Some why

-- the refusal that an answer is, if it is one
abbrev pub refusal : {A : Type 0} → Result A Refusal → Option Refusal
refusal (Ok x) = None
refusal (Err why) = Some why

-- a refusal that fits where the test holds
abbrev pub where_holds : Bool → Refusal → Reason
where_holds fits why = if fits then Some why else None

abbrev pub wrong_size : ℕ → Reason
wrong_size m = where_holds (nat_lt m 1 || nat_lt 6 m) Size

abbrev pub few_marks : Symbols → ℕ → Reason
few_marks Y m = where_holds (nat_lt Y.marks (2 * m)) Marks

-- of some buffers' lengths, each beside the length that it should be, one is wrong
abbrev pub any_wrong : List (ℕ × ℕ) → Bool
any_wrong = list_any (λ p. not (p.0 == p.1))

abbrev pub wrong_lengths : List (ℕ × ℕ) → Reason
wrong_lengths ps = where_holds (any_wrong ps) Length

-- a box outside 1 to n
abbrev pub no_box : ℕ → ℕ → Reason
no_box n b = where_holds (nat_lt b 1 || nat_lt n b) NoBox

-- not one of the data boxes 1 to n
abbrev pub parity_box : ℕ → ℕ → Reason
parity_box n b = where_holds (nat_lt n b) NotRenewable

-- the lost box, or a helper that has been heard already
abbrev pub no_helper : ℕ → ℕ → Bool → Reason
no_helper lost b heard = where_holds (b == lost || heard) Helper

-- a helper has not been heard yet
abbrev pub unheard : Bool → Reason
unheard missing = where_holds missing Unheard
