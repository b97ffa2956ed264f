-- Which words are a command, and which word is the first faulty one.
--   refused-form          refused words are not of the form
--   refused-place         and leave it at the place where they are refused
--   verb_unique           command words differ
--   form-of_command       the words behind the word of v are of its form
--   command-of_form       and words of its form are those of some command
--   faulty-none           there is no word
--   faulty-first          the first word is no command word
--   faulty-behind         a word behind it is refused
--   words_unique          words are those of one command
--   faulty_unique         words are faulty at one place
use Rattle.std.proofs.Common.{◌≡◌, refl, sym, ◌∙◌, ap, ap₂, subst, ℕ, zero, suc, ◌≤◌, ◌+◌, Bool, nat_eq, List, [], ◌∷◌, ◌++◌, length, take, Option, None, Some, inl, inr, arith}
use Rattle.std.specs.Prelude.{codes, if◌then◌else◌}
use lib.Pointwise.{pointwise}
use Rattle.irr_grammar.specs.ShapePlace.{BeginsIn, IsShapePlace}
use Rattle.irr_grammar.proofs.ShapePlaces.{place_unique, place-same}
use Rattle.irr_kvec.specs.declared.wave.Wave.{Wave}
use Rattle.irr_kvec.specs.WaveMeaning.{wave_vector}
use Rattle.irr_rat.specs.VectorMeaning.{vector}
use Rattle.irr_input.specs.declared.form.Form.TheVariants.{Rank1, Rank2, Rank3, Rank4, Sym2, Anti2}
use Rattle.irr_input.specs.declared.form.Form.{Form as TensorForm}
use Rattle.irr_input.specs.declared.words.Command.{Command}
use Rattle.irr_input.specs.declared.words.Command.TheVariants as commands
use Rattle.irr_input.specs.declared.verb.Verb.{Verb}
use Rattle.irr_input.specs.declared.verb.Verb.TheVariants.{Star, Small, Full, Real, Product, Subduce, Compat, Square, Tensor, Site, Check, Gen}
use Rattle.irr_input.specs.Command.{Argument, IsWordOf, AreWordsOf, form_word, verb_of, arguments_of, verb_word, AreWords, IsCommand, AreOneCommand, IsFaulty}
use Rattle.irr_input.specs.Command.Argument.{wave, point, form, number}
use Rattle.irr_input.specs.Forms.{Sort, IsOfSort, Form, IsOfForm, one_wave, two_waves, form_of, IsRefused, IsRefusedFrom}
use Rattle.irr_input.specs.Forms.Sort.{of_waves, of_points, of_forms, of_numbers}
use Rattle.irr_input.specs.Forms.Form.{no_more, one_more, perhaps}
use Rattle.irr_kvec.proofs.OneWave.{wave_unique}
use Rattle.irr_input.proofs.WaveTexts.{zero_wave, zero-text}
use Rattle.irr_input.proofs.PointTexts.{point_unique, zero_point, zero_point-text}

-- forms

word_of : (s : Sort) → (w : List ℕ) × IsOfSort s w
word_of of_waves = (codes "0,0,0", (zero_wave, zero-text))
word_of of_points = (codes "0,0,0", (zero_point, zero_point-text))
word_of of_forms = (codes "1", (Rank1, refl))
word_of of_numbers = (codes "0", (0, ((omega arith, (omega arith, tt)), refl, omega arith)))

words_of : (f : Form) → (ws : List (List ℕ)) × IsOfForm f ws
words_of no_more = ([], tt)
words_of (one_more s f) = ((word_of s).0 ∷ (words_of f).0, ((word_of s).1, (words_of f).1))
words_of (perhaps s f) = ([], tt)

pub refused-form : (f : Form) (ws : List (List ℕ)) (n : ℕ) → IsRefused f ws n → IsOfForm f ws → ⊥
refused-form no_more [] n r h = r
refused-form no_more (w ∷ ws) n r h = h
refused-form (one_more s f) [] n r h = h
refused-form (one_more s f) (w ∷ ws) n (inl r) h = r.0 h.0
refused-form (one_more s f) (w ∷ ws) n (inr r) h = refused-form f ws r.1 r.2 h.1
refused-form (perhaps s f) [] n r h = r
refused-form (perhaps s f) (w ∷ ws) n (inl r) h = r.0 h.0
refused-form (perhaps s f) (w ∷ ws) n (inr r) h = refused-form f ws r.1 r.2 h.1

refused-within : (f : Form) (ws : List (List ℕ)) (n : ℕ) → IsRefused f ws n → n ≤ length ws
refused-within no_more [] n r = absurd r
refused-within no_more (w ∷ ws) n r = omega (arith, r)
refused-within (one_more s f) [] n r = omega (arith, r)
refused-within (one_more s f) (w ∷ ws) n (inl r) = omega (arith, r.1)
refused-within (one_more s f) (w ∷ ws) n (inr r) = let l : r.1 ≤ length ws = refused-within f ws r.1 r.2 in omega (arith, r.3)
refused-within (perhaps s f) [] n r = absurd r
refused-within (perhaps s f) (w ∷ ws) n (inl r) = omega (arith, r.1)
refused-within (perhaps s f) (w ∷ ws) n (inr r) = let l : r.1 ≤ length ws = refused-within f ws r.1 r.2 in omega (arith, r.3)

begins-nothing : (f : Form) (ws : List (List ℕ)) (n : ℕ) → n ≡ 0 → BeginsIn (IsOfForm f) (take n ws)
begins-nothing f ws n e = subst (λ m. BeginsIn (IsOfForm f) (take m ws)) (sym e) (words_of f)

refused-begins : (f : Form) (ws : List (List ℕ)) (n : ℕ) → IsRefused f ws n → BeginsIn (IsOfForm f) (take n ws)
refused-begins no_more [] n r = absurd r
refused-begins no_more (w ∷ ws) n r = begins-nothing no_more (w ∷ ws) n r
refused-begins (one_more s f) [] n r = begins-nothing (one_more s f) [] n r
refused-begins (one_more s f) (w ∷ ws) n (inl r) = begins-nothing (one_more s f) (w ∷ ws) n r.1
refused-begins (one_more s f) (w ∷ ws) n (inr r) = let b = refused-begins f ws r.1 r.2 in subst (λ m. BeginsIn (IsOfForm (one_more s f)) (take m (w ∷ ws))) (sym r.3) (b.0, (r.0, b.1))
refused-begins (perhaps s f) [] n r = absurd r
refused-begins (perhaps s f) (w ∷ ws) n (inl r) = begins-nothing (perhaps s f) (w ∷ ws) n r.1
refused-begins (perhaps s f) (w ∷ ws) n (inr r) = let b = refused-begins f ws r.1 r.2 in subst (λ m. BeginsIn (IsOfForm (perhaps s f)) (take m (w ∷ ws))) (sym r.3) (b.0, (r.0, b.1))

refused-longest : (f : Form) (ws : List (List ℕ)) (n m : ℕ) → IsRefused f ws n → m ≤ length ws → BeginsIn (IsOfForm f) (take m ws) → m ≤ n
refused-longest f ws n zero r l b = omega arith
refused-longest no_more [] n (suc m) r l b = absurd r
refused-longest no_more (w ∷ ws) n (suc m) r l b = absurd b.1
refused-longest (one_more s f) [] n (suc m) r l b = omega (arith, l)
refused-longest (one_more s f) (w ∷ ws) n (suc m) (inl r) l b = absurd (r.0 b.1.0)
refused-longest (one_more s f) (w ∷ ws) n (suc m) (inr r) l b = let h : m ≤ r.1 = refused-longest f ws r.1 m r.2 (omega (arith, l)) (b.0, b.1.1) in omega (arith, r.3)
refused-longest (perhaps s f) [] n (suc m) r l b = absurd r
refused-longest (perhaps s f) (w ∷ ws) n (suc m) (inl r) l b = absurd (r.0 b.1.0)
refused-longest (perhaps s f) (w ∷ ws) n (suc m) (inr r) l b = let h : m ≤ r.1 = refused-longest f ws r.1 m r.2 (omega (arith, l)) (b.0, b.1.1) in omega (arith, r.3)

pub refused-place : (f : Form) (ws : List (List ℕ)) (n : ℕ) → IsRefused f ws n → IsShapePlace (IsOfForm f) ws n
refused-place f ws n r = record { within = refused-within f ws n r; begins = refused-begins f ws n r; longest = λ m l b. refused-longest f ws n m r l b }

-- command words

same : List ℕ → List ℕ → Bool
same = pointwise nat_eq

verb_named : List ℕ → Option Verb
verb_named w = if same w (codes "star") then Some Star else (if same w (codes "small") then Some Small else (if same w (codes "full") then Some Full
    else (if same w (codes "real") then Some Real
    else (if same w (codes "product") then Some Product else (if same w (codes "subduce") then Some Subduce else (if same w (codes "compat") then Some Compat
    else (if same w (codes "square") then Some Square else (if same w (codes "tensor") then Some Tensor else (if same w (codes "site") then Some Site
    else (if same w (codes "check") then Some Check else (if same w (codes "gen") then Some Gen else None)))))))))))

named : (v : Verb) → verb_named (verb_word v) ≡ Some v
unfolding verb_named same
named Star = refl
named Small = refl
named Full = refl
named Real = refl
named Product = refl
named Subduce = refl
named Compat = refl
named Square = refl
named Tensor = refl
named Site = refl
named Check = refl
named Gen = refl

some_is : (u v : Verb) → Some u ≡ Some v → u ≡ v
some_is u v e = cc

pub verb_unique : (u v : Verb) → verb_word u ≡ verb_word v → u ≡ v
verb_unique u v e = some_is u v (sym (named u) ∙ ap verb_named e ∙ named v)

-- from commands to forms and back

IsFormOf : Form → List Argument → Type 0
IsFormOf f args = (ws : List (List ℕ)) → AreWordsOf args ws → IsOfForm f ws

form-none : IsFormOf no_more []
unfolding IsFormOf
form-none [] h = tt
form-none (w ∷ ws) h = h

form-end : (s : Sort) (f : Form) → IsFormOf (perhaps s f) []
unfolding IsFormOf
form-end s f [] h = tt
form-end s f (w ∷ ws) h = absurd h

form-more : (s : Sort) (f : Form) (a : Argument) (args : List Argument) → ((w : List ℕ) → IsWordOf a w → IsOfSort s w) → IsFormOf f args → IsFormOf (one_more s f) (a ∷ args)
unfolding IsFormOf
form-more s f a args one others [] h = h
form-more s f a args one others (w ∷ ws) h = (one w h.0, others ws h.1)

form-perhaps : (s : Sort) (f : Form) (a : Argument) (args : List Argument) → ((w : List ℕ) → IsWordOf a w → IsOfSort s w) → IsFormOf f args → IsFormOf (perhaps s f) (a ∷ args)
unfolding IsFormOf
form-perhaps s f a args one others [] h = absurd h
form-perhaps s f a args one others (w ∷ ws) h = (one w h.0, others ws h.1)

form-wave : (k : Wave) (f : Form) (args : List Argument) → IsFormOf f args → IsFormOf (one_more of_waves f) (wave (wave_vector k) ∷ args)
form-wave k f args = form-more of_waves f (wave (wave_vector k)) args (λ w h. (k, h))

form-of : (c : Command) → IsFormOf (form_of (verb_of c)) (arguments_of c)
form-of (commands.Star k) = form-wave k no_more [] form-none
form-of (commands.Small k) = form-wave k no_more [] form-none
form-of (commands.Full k) = form-wave k no_more [] form-none
form-of (commands.Real k) = form-wave k no_more [] form-none
form-of (commands.Product k l) = form-wave k one_wave (wave (wave_vector l) ∷ []) (form-wave l no_more [] form-none)
form-of (commands.Subduce k) = form-wave k no_more [] form-none
form-of (commands.Compat k l None) = form-wave k (one_more of_waves (perhaps of_waves no_more)) (wave (wave_vector l) ∷ [])
    (form-wave l (perhaps of_waves no_more) [] (form-end of_waves no_more))
form-of (commands.Compat k l (Some m)) = form-wave k (one_more of_waves (perhaps of_waves no_more)) (wave (wave_vector l) ∷ wave (wave_vector m) ∷ [])
    (form-wave l (perhaps of_waves no_more) (wave (wave_vector m) ∷ []) (form-perhaps of_waves no_more (wave (wave_vector m)) [] (λ w h. (m, h)) form-none))
form-of (commands.Square k) = form-wave k no_more [] form-none
form-of (commands.Tensor f) = form-more of_forms no_more (form f) [] (λ w h. (f, h)) form-none
form-of (commands.Site x k) = form-more of_points one_wave (point (vector x)) (wave (wave_vector k) ∷ []) (λ w h. (x, h)) (form-wave k no_more [] form-none)
form-of commands.Check = form-none
form-of (commands.Gen n) = form-more of_numbers no_more (number n) [] (λ w h. (n, h)) form-none

pub form-of_command : (c : Command) (ws : List (List ℕ)) → AreWordsOf (arguments_of c) ws → IsOfForm (form_of (verb_of c)) ws
unfolding IsFormOf
form-of_command c ws h = form-of c ws h

record HasCommand (v : Verb) (ws : List (List ℕ)) : Type 0 where
  pub command : Command
  pub verb : verb_of command ≡ v
  pub arguments : AreWordsOf (arguments_of command) ws

of_one : (ws : List (List ℕ)) → IsOfForm one_wave ws → (k : Wave) × AreWordsOf (wave (wave_vector k) ∷ []) ws
of_one [] h = absurd h
of_one (w ∷ []) h = (h.0.0, (h.0.1, tt))
of_one (w ∷ x ∷ ws) h = absurd h.1

of_two : (ws : List (List ℕ)) → IsOfForm two_waves ws → (k : Wave) × (l : Wave) × AreWordsOf (wave (wave_vector k) ∷ wave (wave_vector l) ∷ []) ws
of_two [] h = absurd h
of_two (w ∷ ws) h = let r = of_one ws h.1 in (h.0.0, r.0, (h.0.1, r.1))

of_form : (v : Verb) (ws : List (List ℕ)) → IsOfForm (form_of v) ws → HasCommand v ws
of_form Star ws h = let r = of_one ws h in record { command = commands.Star r.0; verb = refl; arguments = r.1 }
of_form Small ws h = let r = of_one ws h in record { command = commands.Small r.0; verb = refl; arguments = r.1 }
of_form Full ws h = let r = of_one ws h in record { command = commands.Full r.0; verb = refl; arguments = r.1 }
of_form Real ws h = let r = of_one ws h in record { command = commands.Real r.0; verb = refl; arguments = r.1 }
of_form Product ws h = let r = of_two ws h in record { command = commands.Product r.0 r.1; verb = refl; arguments = r.2 }
of_form Subduce ws h = let r = of_one ws h in record { command = commands.Subduce r.0; verb = refl; arguments = r.1 }
of_form Compat [] h = absurd h
of_form Compat (w ∷ []) h = absurd h.1
of_form Compat (w ∷ x ∷ []) h = record { command = commands.Compat h.0.0 h.1.0.0 None; verb = refl; arguments = (h.0.1, (h.1.0.1, tt)) }
of_form Compat (w ∷ x ∷ y ∷ []) h = record { command = commands.Compat h.0.0 h.1.0.0 (Some h.1.1.0.0); verb = refl; arguments = (h.0.1, (h.1.0.1, (h.1.1.0.1, tt))) }
of_form Compat (w ∷ x ∷ y ∷ z ∷ ws) h = absurd h.1.1.1
of_form Square ws h = let r = of_one ws h in record { command = commands.Square r.0; verb = refl; arguments = r.1 }
of_form Tensor [] h = absurd h
of_form Tensor (w ∷ []) h = record { command = commands.Tensor h.0.0; verb = refl; arguments = (h.0.1, tt) }
of_form Tensor (w ∷ x ∷ ws) h = absurd h.1
of_form Site [] h = absurd h
of_form Site (w ∷ ws) h = let r = of_one ws h.1 in record { command = commands.Site h.0.0 r.0; verb = refl; arguments = (h.0.1, r.1) }
of_form Check [] h = record { command = commands.Check; verb = refl; arguments = tt }
of_form Check (w ∷ ws) h = absurd h
of_form Gen [] h = absurd h
of_form Gen (w ∷ []) h = record { command = commands.Gen h.0.0; verb = refl; arguments = (h.0.1, tt) }
of_form Gen (w ∷ x ∷ ws) h = absurd h.1

pub are_words : (v : Verb) (first : List ℕ) (ws : List (List ℕ)) (c : Command) → first ≡ verb_word v → verb_of c ≡ v → AreWordsOf (arguments_of c) ws → AreWords (first ∷ ws) c
are_words v first ws c e f h = record { behind = ws; spelled = ap (λ w. w ∷ ws) (e ∙ ap verb_word (sym f)); are_arguments = h }

pub command-of_form : (v : Verb) (ws : List (List ℕ)) → IsOfForm (form_of v) ws → IsCommand (verb_word v ∷ ws)
command-of_form v ws h = let r = of_form v ws h in (r.command, are_words v (verb_word v) ws r.command refl r.verb r.arguments)

form-of_words : (v : Verb) (ws : List (List ℕ)) → IsCommand (verb_word v ∷ ws) → IsOfForm (form_of v) ws
form-of_words v ws (c, h) =
    let first : verb_word v ≡ verb_word (verb_of c) = heads (verb_word v) (verb_word (verb_of c)) ws h.behind h.spelled in
    let rest : ws ≡ h.behind = tails (verb_word v) (verb_word (verb_of c)) ws h.behind h.spelled in
    subst (λ u. IsOfForm (form_of u) ws) (sym (verb_unique v (verb_of c) first)) (subst (IsOfForm (form_of (verb_of c))) (sym rest) (form-of_command c h.behind h.are_arguments))
  where
    heads : (x y : List ℕ) (xs ys : List (List ℕ)) → x ∷ xs ≡ y ∷ ys → x ≡ y
    heads x y xs ys e = cc

    tails : (x y : List ℕ) (xs ys : List (List ℕ)) → x ∷ xs ≡ y ∷ ys → xs ≡ ys
    tails x y xs ys e = cc

-- faulty words

place-behind : {A : Type 0} (G : List A → Type 0) (x : A) (xs : List A) (n : ℕ) → IsShapePlace (λ ys. G (x ∷ ys)) xs n → IsShapePlace G (x ∷ xs) (suc n)
place-behind {A} G x xs n h = record { within = let l : n ≤ length xs = h.within in omega arith; begins = h.begins; longest = longest }
  where
    longest : (m : ℕ) → m ≤ length (x ∷ xs) → BeginsIn G (take m (x ∷ xs)) → m ≤ suc n
    longest zero l b = omega arith
    longest (suc m) l b = let h : m ≤ n = h.longest m (omega (arith, l)) b in omega arith

some_command : IsCommand (codes "check" ∷ [])
some_command = command-of_form Check [] tt

begins_all : BeginsIn IsCommand []
begins_all = (codes "check" ∷ [], some_command)

pub faulty-none : IsFaulty IsCommand [] 1
faulty-none = record {
  no_command = λ h. let e : [] ≡ verb_word (verb_of h.0) ∷ h.1.behind = h.1.spelled in cc;
  right = 0;
  is_place = record { within = omega arith; begins = begins_all; longest = λ m l b. l };
  is_next = refl;
}

pub faulty-first : (first : List ℕ) (ws : List (List ℕ)) → ((v : Verb) → first ≡ verb_word v → ⊥) → IsFaulty IsCommand (first ∷ ws) 1
faulty-first first ws n = record {
  no_command = no_word ws;
  right = 0;
  is_place = record { within = omega arith; begins = begins_all; longest = longest };
  is_next = refl;
}
  where
    no_word : (xs : List (List ℕ)) → IsCommand (first ∷ xs) → ⊥
    no_word xs (c, h) = n (verb_of c) (let e : first ∷ xs ≡ verb_word (verb_of c) ∷ h.behind = h.spelled in cc)

    longest : (m : ℕ) → m ≤ length (first ∷ ws) → BeginsIn IsCommand (take m (first ∷ ws)) → m ≤ 0
    longest zero l b = omega arith
    longest (suc m) l b = absurd (no_word (take m ws ++ b.0) b.1)

pub faulty-behind : (v : Verb) (first : List ℕ) (ws : List (List ℕ)) (n : ℕ) → first ≡ verb_word v → IsRefusedFrom 2 (form_of v) ws n → IsFaulty IsCommand (first ∷ ws) n
faulty-behind v first ws n e r = subst (λ w. IsFaulty IsCommand (w ∷ ws) n) (sym e) (record {
  no_command = λ h. refused-form (form_of v) ws r.0 r.1 (form-of_words v ws h);
  right = suc r.0;
  is_place = place-behind IsCommand (verb_word v) ws r.0
      (place-same (IsOfForm (form_of v)) (λ ys. IsCommand (verb_word v ∷ ys)) (command-of_form v) (form-of_words v) ws r.0 (refused-place (form_of v) ws r.0 r.1));
  is_next = r.2 ∙ add-two r.0;
})
  where
    add-two : (m : ℕ) → m + 2 ≡ suc (suc m)
    add-two m = omega arith

-- one command, and one faulty word

sort_of : Argument → Sort
sort_of (wave k) = of_waves
sort_of (point x) = of_points
sort_of (form f) = of_forms
sort_of (number n) = of_numbers

form_named : List ℕ → Option TensorForm
form_named w = if same w (codes "1") then Some Rank1 else (if same w (codes "2") then Some Rank2 else (if same w (codes "3") then Some Rank3
    else (if same w (codes "4") then Some Rank4 else (if same w (codes "sym2") then Some Sym2 else (if same w (codes "anti2") then Some Anti2 else None)))))

form_read : (f : TensorForm) → form_named (form_word f) ≡ Some f
unfolding form_named same
form_read Rank1 = refl
form_read Rank2 = refl
form_read Rank3 = refl
form_read Rank4 = refl
form_read Sym2 = refl
form_read Anti2 = refl

some_form : (f g : TensorForm) → Some f ≡ Some g → f ≡ g
some_form f g e = cc

form_unique : (f g : TensorForm) → form_word f ≡ form_word g → f ≡ g
form_unique f g e = some_form f g (sym (form_read f) ∙ ap form_named e ∙ form_read g)

-- a word writes one argument of each sort
argument_unique : (s : Sort) (a b : Argument) (w : List ℕ) → sort_of a ≡ s → sort_of b ≡ s → IsWordOf a w → IsWordOf b w → a ≡ b
unfolding sort_of
argument_unique s (wave k) (wave l) w p q h g = ap wave (wave_unique w k l h g)
argument_unique s (wave k) (point y) w p q h g = absurd (cc (p, q))
argument_unique s (wave k) (form f) w p q h g = absurd (cc (p, q))
argument_unique s (wave k) (number n) w p q h g = absurd (cc (p, q))
argument_unique s (point x) (wave l) w p q h g = absurd (cc (p, q))
argument_unique s (point x) (point y) w p q h g = ap point (point_unique w x y h g)
argument_unique s (point x) (form f) w p q h g = absurd (cc (p, q))
argument_unique s (point x) (number n) w p q h g = absurd (cc (p, q))
argument_unique s (form f) (wave l) w p q h g = absurd (cc (p, q))
argument_unique s (form f) (point y) w p q h g = absurd (cc (p, q))
argument_unique s (form f) (form g) w p q h k = ap form (form_unique f g (sym h ∙ k))
argument_unique s (form f) (number n) w p q h g = absurd (cc (p, q))
argument_unique s (number m) (wave l) w p q h g = absurd (cc (p, q))
argument_unique s (number m) (point y) w p q h g = absurd (cc (p, q))
argument_unique s (number m) (form f) w p q h g = absurd (cc (p, q))
argument_unique s (number m) (number n) w p q h g = ap number (sym h.1 ∙ g.1)

-- arguments of the sorts of a form
AreOfForm : Form → List Argument → Type 0
AreOfForm no_more [] = Unit {0}
AreOfForm no_more (a ∷ args) = ⊥
AreOfForm (one_more s f) [] = ⊥
AreOfForm (one_more s f) (a ∷ args) = (sort_of a ≡ s) × AreOfForm f args
AreOfForm (perhaps s f) [] = Unit {0}
AreOfForm (perhaps s f) (a ∷ args) = (sort_of a ≡ s) × AreOfForm f args

are_of_form : (c : Command) → AreOfForm (form_of (verb_of c)) (arguments_of c)
unfolding AreOfForm sort_of
are_of_form (commands.Star k) = (refl, tt)
are_of_form (commands.Small k) = (refl, tt)
are_of_form (commands.Full k) = (refl, tt)
are_of_form (commands.Real k) = (refl, tt)
are_of_form (commands.Product k l) = (refl, (refl, tt))
are_of_form (commands.Subduce k) = (refl, tt)
are_of_form (commands.Compat k l None) = (refl, (refl, tt))
are_of_form (commands.Compat k l (Some m)) = (refl, (refl, (refl, tt)))
are_of_form (commands.Square k) = (refl, tt)
are_of_form (commands.Tensor f) = (refl, tt)
are_of_form (commands.Site x k) = (refl, (refl, tt))
are_of_form commands.Check = tt
are_of_form (commands.Gen n) = (refl, tt)

arguments_unique : (f : Form) (xs ys : List Argument) (ws : List (List ℕ)) → AreOfForm f xs → AreOfForm f ys → AreWordsOf xs ws → AreWordsOf ys ws → xs ≡ ys
unfolding AreOfForm
arguments_unique f [] [] ws p q h g = refl
arguments_unique f [] (b ∷ ys) [] p q h g = absurd g
arguments_unique f [] (b ∷ ys) (w ∷ ws) p q h g = absurd h
arguments_unique f (a ∷ xs) [] [] p q h g = absurd h
arguments_unique f (a ∷ xs) [] (w ∷ ws) p q h g = absurd g
arguments_unique f (a ∷ xs) (b ∷ ys) [] p q h g = absurd h
arguments_unique no_more (a ∷ xs) (b ∷ ys) (w ∷ ws) p q h g = absurd p
arguments_unique (one_more s f) (a ∷ xs) (b ∷ ys) (w ∷ ws) p q h g =
    ap₂ (λ (x : Argument) (xs : List Argument). x ∷ xs) (argument_unique s a b w p.0 q.0 h.0 g.0) (arguments_unique f xs ys ws p.1 q.1 h.1 g.1)
arguments_unique (perhaps s f) (a ∷ xs) (b ∷ ys) (w ∷ ws) p q h g =
    ap₂ (λ (x : Argument) (xs : List Argument). x ∷ xs) (argument_unique s a b w p.0 q.0 h.0 g.0) (arguments_unique f xs ys ws p.1 q.1 h.1 g.1)

pub words_unique : (words : List (List ℕ)) (c d : Command) → AreWords words c → AreWords words d → AreOneCommand c d
words_unique words c d h g =
    let whole : verb_word (verb_of c) ∷ h.behind ≡ verb_word (verb_of d) ∷ g.behind = sym h.spelled ∙ g.spelled in
    let first : verb_word (verb_of c) ≡ verb_word (verb_of d) = cc (whole) in
    let rest : h.behind ≡ g.behind = cc (whole) in
    let verb : verb_of c ≡ verb_of d = verb_unique (verb_of c) (verb_of d) first in
    record {
      verb = verb;
      arguments = arguments_unique (form_of (verb_of d)) (arguments_of c) (arguments_of d) h.behind
          (subst (λ v. AreOfForm (form_of v) (arguments_of c)) verb (are_of_form c)) (are_of_form d)
          h.are_arguments (subst (AreWordsOf (arguments_of d)) (sym rest) g.are_arguments);
    }

pub faulty_unique : (G : List (List ℕ) → Type 0) (words : List (List ℕ)) (m n : ℕ) → IsFaulty G words m → IsFaulty G words n → m ≡ n
faulty_unique G words m n h g = h.is_next ∙ ap suc (place_unique G words h.right g.right h.is_place g.is_place) ∙ sym g.is_next
