-- Words of a form, read from the first on.
--   refused-here, refused-behind          the first word is no wave vector, or a word behind it is refused
--   perhaps-here, perhaps-behind          the same where it may be missing
--   point-here, point-behind              and of points
--   form-here, form-behind                and of forms of tensors
--   number-behind                         and of numbers
--   texts-more                            there is a first word
use Rattle.std.proofs.Common.{◌≡◌, refl, sym, subst, ℕ, suc, ◌<◌, ◌+◌, List, [], ◌∷◌, length, Vec, Global, inl, inr, arith}
use Rattle.irr_kvec.specs.declared.wave.Wave.{Wave}
use Rattle.irr_kvec.specs.WaveMeaning.{wave_vector}
use Rattle.irr_rat.specs.declared.vec3.Vec3.{Vec3}
use Rattle.irr_rat.specs.VectorMeaning.{vector}
use Rattle.irr_input.specs.declared.form.Form.{Form as TensorForm}
use Rattle.irr_input.specs.Command.{texts, Argument, IsWordOf}
use Rattle.irr_input.specs.Command.Argument.{wave, point, form, number}
use Rattle.irr_input.specs.Forms.{Sort, IsOfSort, Form, BeginsWith, IsFirst, IsRefused, IsRefusedFrom}
use Rattle.irr_input.specs.Forms.Sort.{of_waves, of_points, of_forms, of_numbers}
use Rattle.irr_input.specs.Forms.Form.{one_more, perhaps}

here : (s : Sort) (f : Form) (ws : List (List ℕ)) → ¬ (BeginsWith s ws) → IsRefused (one_more s f) ws 0
here s f [] h = refl
here s f (w ∷ ws) h = inl (h, refl)

behind : (s : Sort) (f : Form) (a : Argument) (ws rest : List (List ℕ)) (n : ℕ) → ((w : List ℕ) → IsWordOf a w → IsOfSort s w) → IsFirst a ws rest → IsRefused f rest n → IsRefused (one_more s f) ws (suc n)
behind s f a [] rest n sort h r = absurd h
behind s f a (w ∷ ws) rest n sort h r = inr (sort w h.0, n, subst (λ xs. IsRefused f xs n) (sym h.1) r, refl)

next_number : (r m n : ℕ) → n ≡ r + suc m → n ≡ suc r + m
next_number r m n e = omega (arith, e)

pub refused-here : (m : ℕ) (f : Form) (ws : List (List ℕ)) (n : ℕ) → (n ≡ m) × ¬ (BeginsWith of_waves ws) → IsRefusedFrom m (one_more of_waves f) ws n
refused-here m f ws n h = (0, here of_waves f ws h.1, omega (arith, h.0))

pub refused-behind : (m : ℕ) (f : Form) (k : Wave) (ws rest : List (List ℕ)) (n : ℕ) → IsFirst (wave (wave_vector k)) ws rest → IsRefusedFrom (suc m) f rest n → IsRefusedFrom m (one_more of_waves f) ws n
refused-behind m f k ws rest n h r = (suc r.0, behind of_waves f (wave (wave_vector k)) ws rest r.0 (λ w g. (k, g)) h r.1, next_number r.0 m n r.2)

pub point-here : (m : ℕ) (f : Form) (ws : List (List ℕ)) (n : ℕ) → (n ≡ m) × ¬ (BeginsWith of_points ws) → IsRefusedFrom m (one_more of_points f) ws n
point-here m f ws n h = (0, here of_points f ws h.1, omega (arith, h.0))

pub point-behind : (m : ℕ) (f : Form) (x : Vec3) (ws rest : List (List ℕ)) (n : ℕ) → IsFirst (point (vector x)) ws rest → IsRefusedFrom (suc m) f rest n → IsRefusedFrom m (one_more of_points f) ws n
point-behind m f x ws rest n h r = (suc r.0, behind of_points f (point (vector x)) ws rest r.0 (λ w g. (x, g)) h r.1, next_number r.0 m n r.2)

pub perhaps-here : (m : ℕ) (f : Form) (ws : List (List ℕ)) (n : ℕ) → 0 < length ws → (n ≡ m) × ¬ (BeginsWith of_waves ws) → IsRefusedFrom m (perhaps of_waves f) ws n
perhaps-here m f [] n l h = absurd (omega (arith, l))
perhaps-here m f (w ∷ ws) n l h = (0, inl (h.1, refl), omega (arith, h.0))

pub perhaps-behind : (m : ℕ) (f : Form) (k : Wave) (ws rest : List (List ℕ)) (n : ℕ) → IsFirst (wave (wave_vector k)) ws rest → IsRefusedFrom (suc m) f rest n → IsRefusedFrom m (perhaps of_waves f) ws n
perhaps-behind m f k [] rest n h r = absurd h
perhaps-behind m f k (w ∷ ws) rest n h r = (suc r.0, inr ((k, h.0), r.0, subst (λ xs. IsRefused f xs r.0) (sym h.1) r.1, refl), next_number r.0 m n r.2)

pub form-here : (m : ℕ) (f : Form) (words : List (Vec ℕ Global)) (word : Vec ℕ Global) (rest : List (Vec ℕ Global)) → words ≡ word ∷ rest
    → ((t : TensorForm) → ¬ (IsWordOf (form t) word.items)) → IsRefusedFrom m (one_more of_forms f) (texts words) m
form-here m f words word rest e none = (0, subst (λ ws. IsRefused (one_more of_forms f) (texts ws) 0) (sym e) (inl ((λ h. none h.0 h.1), refl)), omega arith)

pub form-behind : (m : ℕ) (f : Form) (t : TensorForm) (words : List (Vec ℕ Global)) (word : Vec ℕ Global) (rest : List (Vec ℕ Global)) (n : ℕ) → words ≡ word ∷ rest → IsWordOf (form t) word.items
    → IsRefusedFrom (suc m) f (texts rest) n → IsRefusedFrom m (one_more of_forms f) (texts words) n
form-behind m f t words word rest n e h r = subst (λ ws. IsRefusedFrom m (one_more of_forms f) (texts ws) n) (sym e) (suc r.0, inr ((t, h), r.0, r.1, refl), next_number r.0 m n r.2)

pub number-behind : (m : ℕ) (f : Form) (k : ℕ) (words : List (Vec ℕ Global)) (word : Vec ℕ Global) (rest : List (Vec ℕ Global)) (n : ℕ) → words ≡ word ∷ rest → IsWordOf (number k) word.items
    → IsRefusedFrom (suc m) f (texts rest) n → IsRefusedFrom m (one_more of_numbers f) (texts words) n
number-behind m f k words word rest n e h r = subst (λ ws. IsRefusedFrom m (one_more of_numbers f) (texts ws) n) (sym e) (suc r.0, inr ((k, h), r.0, r.1, refl), next_number r.0 m n r.2)

pub texts-more : (words : List (Vec ℕ Global)) → (length words ≡ 0 → ⊥) → 0 < length (texts words)
texts-more [] n = absurd (n refl)
texts-more (w ∷ ws) n = omega arith

pub no_sort : (s : Sort) (words : List (Vec ℕ Global)) (word : Vec ℕ Global) (rest : List (Vec ℕ Global)) → words ≡ word ∷ rest → ¬ (IsOfSort s word.items) → ¬ (BeginsWith s (texts words))
no_sort s words word rest e h = subst (λ ws. ¬ (BeginsWith s (texts ws))) (sym e) h
