-- Which of a cabinet's boxes are out. Boxes go by their places, from 0. Assumes nothing.
use Rattle.std.specs.Prelude.{ℕ, ◌+◌, Bool, nat_lt}
use Rattle.code.specs.Standing.{standing}
use Rattle.refusal.specs.Refusals.{Reason, where_holds}
use Rattle.refusal.specs.declared.Refusal.TheVariants.{ManyOut}

-- of n boxes three or more are out: fewer than all but two stand
abbrev pub many_out : ℕ → (ℕ → Bool) → Reason
many_out n stands = where_holds (nat_lt (standing stands n + 2) n) ManyOut
