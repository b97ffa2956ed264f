-- The bytes of an input that was read.
--   all_read       bytes that were read to the end are all that the source had
--   at_end         and then nothing is left
--   too_many       more bytes came than the limit, so there are more
--   some_bytes     some bytes are all that a source had
use Rattle.std.proofs.Common.{◌≡◌, ◌∙◌, ap, refl, ℕ, ◌<◌, ◌+◌, [], List, Option, Some, None, length, arith, length-append}
use Rattle.irr_io.specs.Told.{IsEmptied, LosesAll, LosesFront}
use Rattle.irr_top.specs.Outcome.{IsAllOf}

pub all_read : (old new : Option (List ℕ)) (bytes : List ℕ) → LosesAll old new bytes → IsAllOf old bytes
all_read None None bytes h = tt
all_read None (Some new) bytes h = absurd h
all_read (Some old) None bytes h = absurd h
all_read (Some old) (Some new) bytes h = h.0

pub at_end : (old new : Option (List ℕ)) (bytes : List ℕ) → LosesAll old new bytes → IsEmptied new
at_end None None bytes h = tt
at_end None (Some new) bytes h = absurd h
at_end (Some old) None bytes h = absurd h
at_end (Some old) (Some new) bytes h = h.1

pub too_many : (limit : ℕ) (old new : Option (List ℕ))
    → (piece : List ℕ) × LosesFront old new piece × (limit < length piece)
    → (bytes : List ℕ) × (IsAllOf old bytes) × (limit < length bytes)
too_many limit None None t = (t.0, tt, t.2)
too_many limit None (Some new) t = absurd t.1
too_many limit (Some old) None t = absurd t.1
too_many limit (Some old) (Some new) t = (
  old,
  refl,
  let l : limit < length t.0 = t.2 in let e : length old ≡ length t.0 + length new = ap length t.1
      ∙ length-append t.0 new in omega arith,
)

pub some_bytes : (old : Option (List ℕ)) → (bytes : List ℕ) × IsAllOf old bytes
some_bytes None = ([], tt)
some_bytes (Some old) = (old, refl)
