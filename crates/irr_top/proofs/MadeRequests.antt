-- The input of a request.
--   is_made           a request with a number has a made input
--   read_request      what a request that reads its input asks of the bytes
--   made_request      what one that has a made input asks of it
use Rattle.std.proofs.Common.{◌≡◌, sym, ◌∙◌, subst, refl, ℕ, List, Option, None, Some}
use Rattle.irr_space.specs.Operation.{WaveVector}
use Rattle.irr_gen.specs.MadeInput.{IsMadeInput}
use Rattle.irr_top.specs.Asked.{AsksOfRequest, AsksOfBytes, IsInputOf}
use Rattle.irr_top.specs.Request.{made_number}
use Rattle.irr_top.specs.declared.request.Request.{Request}
use Rattle.irr_top.specs.declared.status.Status.{Status}

pub is_made : (o : Option ℕ) (n : ℕ) → o ≡ Some n → o ≡ None → ⊥
is_made o n p e = let f : Some n ≡ None = sym p ∙ e in cc

pub read_request : (r : Request) {bytes : List ℕ} {s : Status} {text : List ℕ} → made_number r ≡ None → AsksOfBytes r bytes s text
    → AsksOfRequest r bytes s text
read_request r {bytes} e a = record { input = bytes; is_input = subst (λ o. IsInputOf o bytes bytes) (sym e) refl; asks = a }

pub made_request : (r : Request) (bytes : List ℕ) {input : List ℕ} {s : Status} {text : List ℕ} (n : ℕ) (k : WaveVector) → made_number r ≡ Some n
    → IsMadeInput n input k → AsksOfBytes r input s text → AsksOfRequest r bytes s text
made_request r bytes {input} n k e made a = record {
  input = input;
  is_input = subst (λ o. IsInputOf o bytes input) (sym e) (k, made);
  asks = a;
}
