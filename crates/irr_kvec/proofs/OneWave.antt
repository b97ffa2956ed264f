-- A text writes one wave vector at most.
--   apart_wave        in the tokens of a wave vector numbers stand apart
--   wave_once         the tokens tell the wave vector as it is written
--   wave_unique       a text writes one wave vector
use Rattle.std.proofs.Common.{◌≡◌, sym, ◌∙◌, ap, subst, ℕ, List, [], ◌∷◌, ◌++◌, append-nil, arith}
use Rattle.irr_space.specs.Operation.{WaveVector, wave_component}
use Rattle.irr_lattice.proofs.Vectors.{wave-ext}
use Rattle.irr_rat.proofs.Vectors.{each_of_three}
use Rattle.irr_token.specs.Token.{Token}
use Rattle.irr_token.specs.Token.Token.{mark}
use Rattle.irr_token.specs.Spelling.{NumbersApart}
use Rattle.irr_token.specs.Quotient.{WrittenQuotient, quotient_tokens, quotient_value}
use Rattle.irr_token.specs.Reading.{IsBehindQuotient}
use Rattle.irr_token.proofs.SpelledOnce.{apart_quotient, quotient_once, spelled_once}
use Rattle.irr_kvec.specs.WrittenWave.{WrittenWave, wave_tokens}
use Rattle.irr_kvec.specs.WaveFault.{IsValue, IsTextOf}

comma : (ts : List Token) → IsBehindQuotient (mark 44 ∷ ts)
comma ts e = omega (arith, e)

apart_last : (q : WrittenQuotient) → NumbersApart (quotient_tokens q)
apart_last q = subst NumbersApart (append-nil (quotient_tokens q)) (apart_quotient q [] tt tt)

pub apart_wave : (w : WrittenWave) → NumbersApart (wave_tokens w)
apart_wave w =
    let last = mark 44 ∷ quotient_tokens w.z in
    let second = mark 44 ∷ (quotient_tokens w.y ++ last) in
    apart_quotient w.x second (comma (quotient_tokens w.y ++ last)) (apart_quotient w.y last (comma (quotient_tokens w.z)) (apart_last w.z))

tail_once : (ts us : List Token) → mark 44 ∷ ts ≡ mark 44 ∷ us → ts ≡ us
tail_once ts us e = cc

last_once : (q p : WrittenQuotient) → quotient_tokens q ≡ quotient_tokens p → q ≡ p
last_once q p e = (quotient_once q p [] [] tt tt (append-nil (quotient_tokens q) ∙ e ∙ sym (append-nil (quotient_tokens p)))).0

pub wave_once : (w v : WrittenWave) → wave_tokens w ≡ wave_tokens v → (w.x ≡ v.x) × (w.y ≡ v.y) × (w.z ≡ v.z)
wave_once w v e =
    let last = mark 44 ∷ quotient_tokens w.z in
    let other = mark 44 ∷ quotient_tokens v.z in
    let x = quotient_once w.x v.x (mark 44 ∷ (quotient_tokens w.y ++ last)) (mark 44 ∷ (quotient_tokens v.y ++ other)) (comma (quotient_tokens w.y ++ last))
    (comma (quotient_tokens v.y ++ other)) e in
    let y = quotient_once w.y v.y last other (comma (quotient_tokens w.z)) (comma (quotient_tokens v.z))
    (tail_once (quotient_tokens w.y ++ last) (quotient_tokens v.y ++ other) x.1) in
    (x.0, y.0, last_once w.z v.z (tail_once (quotient_tokens w.z) (quotient_tokens v.z) y.1))

pub wave_unique : (text : List ℕ) (k l : WaveVector) → IsTextOf text k → IsTextOf text l → k ≡ l
wave_unique text k l a b =
    let w = a.wave in
    let v = b.wave in
    let once = wave_once w v (spelled_once 0 (wave_tokens w) (wave_tokens v) text (apart_wave w) (apart_wave v) a.spells.spelled b.spells.spelled) in
    let p : IsValue w k = a.written.2 in
    let q : IsValue v l = b.written.2 in
    wave-ext k l (each_of_three (λ i. wave_component k i ≡ wave_component l i) (p.x ∙ ap quotient_value once.0 ∙ sym q.x)
    (p.y ∙ ap quotient_value once.1 ∙ sym q.y) (p.z ∙ ap quotient_value once.2 ∙ sym q.z))
