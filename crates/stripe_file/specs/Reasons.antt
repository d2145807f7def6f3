-- Why the calls on a stripe decline, beyond the reasons of every call. Assumes nothing.
use Rattle.std.specs.Prelude.{ℕ, zero, suc, Bool, false, not, ◌&&◌, ◌||◌}
use Rattle.missing.specs.Missing.{present}
use Rattle.missing.specs.declared.Missing.{Missing}
use Rattle.refusal.specs.Refusals.{Reason, where_holds}
use Rattle.refusal.specs.declared.Refusal.TheVariants.{ManyOut, Out}

-- of the boxes in the places below n, one that is asked for does not stand
abbrev pub some_out : (ℕ → Bool) → (ℕ → Bool) → ℕ → Bool
some_out asked stands zero = false
some_out asked stands (suc b) = some_out asked stands b || (asked b && not (stands b))

-- of n boxes, one that is listed as missing is out, or one that is not listed
abbrev pub listed_out : ℕ → Missing → (ℕ → Bool) → Reason
listed_out n missing stands = where_holds (some_out (λ b. not (present missing b)) stands n) Out

abbrev pub other_out : ℕ → Missing → (ℕ → Bool) → Reason
other_out n missing stands = where_holds (some_out (present missing) stands n) ManyOut
