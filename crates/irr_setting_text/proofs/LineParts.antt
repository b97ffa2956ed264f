-- The parts of a line, from left to right.
--   fraction_front           the fraction at the front of a text
--   word_behind, too_short   what is left behind the word
--   alike                    what is read of a fraction is alike
--   three_alike, nine_alike  the fractions of a line
use Rattle.std.proofs.Common.{◌≡◌, refl, sym, ◌∙◌, ap, subst, ℕ, ◌<◌, ◌≤◌, ◌+◌, Bool, List, [], ◌∷◌, ◌++◌, length, length-append, append-nil, take, drop, Option, None, Some, arith}
use Rattle.std.proofs.Math.Seq.{drop-append_seam}
use Rattle.std.proofs.lemmas.List.{take-append-drop, length-take-le}
use Rattle.std.specs.Str.Parse.{IsNumeral}
use Rattle.irr_token.specs.Kinds.{AreBlanks}
use Rattle.irr_token.specs.Token.{Token}
use Rattle.irr_token.specs.Spelling.{AreSpelled}
use Rattle.irr_token.specs.declared.read.Quotient.{Quotient}
use Rattle.irr_token.specs.Quotient.{WrittenQuotient, quotient_tokens}
use Rattle.irr_token.specs.Reading.{written_quotient, IsReadAs, IsBehindQuotient, BeginsWithBlank}
use Rattle.irr_setting_text.specs.declared.row.Row.{Row}
use Rattle.irr_setting_text.specs.declared.row.Rows.{Rows}
use Rattle.irr_setting_text.specs.WrittenLine.{HasNoBlank, AreWritten, IsSpelling}
use Rattle.irr_setting_text.specs.LineFront.{IsWord}
use Rattle.irr_setting_text.specs.LineReading.{IsAtBlank, IsAlike, AreAlike, written_row, written_rows}
use Rattle.irr_setting_text.proofs.Fractions.{sign_bytes, over_bytes, IsInBytes, quotient-bytes}
use Rattle.irr_setting_text.proofs.Runs.{run_once}

-- what `behind` says where nothing stands before the blanks
abbrev pub Skips : ℕ → List ℕ → ℕ → List ℕ → Type 0
Skips at text to left = (front blanks tail : List ℕ) → length front ≡ 0 → AreBlanks blanks → ¬ (BeginsWithBlank tail) → text ≡ front ++ (blanks ++ tail)
    → (left ≡ tail) × (to ≡ at + length front + length blanks)

-- what `front_quotient` says
abbrev pub Reads : ℕ → List ℕ → Quotient → ℕ → List ℕ → Type 0
Reads at text r to left = (q : WrittenQuotient) (ts : List Token) → IsBehindQuotient ts → AreSpelled at (quotient_tokens q ++ ts) text
    → IsReadAs r q × AreSpelled to ts left

-- and what is said of a fraction behind blanks
abbrev pub ReadsNext : ℕ → List ℕ → Quotient → ℕ → List ℕ → Type 0
ReadsNext at text r to left = (q : WrittenQuotient) (qs : List WrittenQuotient) → AreWritten at (q ∷ qs) text → IsReadAs r q × AreWritten to qs left

pub some_bytes : (q : WrittenQuotient) → IsInBytes q [] → ⊥
some_bytes q b = of_sign q.sign q.numerator.digits (over_bytes q.denominator) b.numerator b.are
  where
    of_sign : (s : Option Bool) (ds rest : List ℕ) → IsNumeral 10 ds → [] ≡ sign_bytes s ++ (ds ++ rest) → ⊥
    of_sign None [] rest is e = let some : 0 < length {A = ℕ} [] = is.0 in omega arith
    of_sign None (d ∷ ds) rest is e = cc
    of_sign (Some p) ds rest is e = cc

pub no_blank_front : (run rest : List ℕ) → (run ≡ [] → ⊥) → HasNoBlank run → ¬ (BeginsWithBlank (run ++ rest))
no_blank_front [] rest f h b = f refl
no_blank_front (c ∷ cs) rest f h b = h.0 b

pub at_blank : (at : ℕ) (qs : List WrittenQuotient) (text : List ℕ) → AreWritten at qs text → IsAtBlank text
at_blank at [] [] h = tt
at_blank at [] (c ∷ cs) h = h.0
at_blank at (q ∷ qs) text h = subst IsAtBlank (sym h.joins) (of_blanks h.blanks h.are_blanks h.some)
  where
    of_blanks : (bs : List ℕ) → AreBlanks bs → 0 < length bs → IsAtBlank (bs ++ (h.run ++ h.rest))
    of_blanks [] are some = absurd (let f : 0 < length {A = ℕ} [] = some in omega arith)
    of_blanks (b ∷ bs) are some = are.0

pub fraction_front : (at : ℕ) (text : List ℕ) (to : ℕ) (left : List ℕ) (run : ℕ) (front rest : List ℕ) (r : Quotient) (last : ℕ) (none : List ℕ)
    → Skips at text to left → run ≤ length left → HasNoBlank (take run left) → IsAtBlank (drop run left) → front ≡ take run left → rest ≡ drop run left
    → Reads to front r last none → ReadsNext at text r (to + run) rest
fraction_front at text to left run front rest r last none skips le no_blank stops ef er reads q qs h =
    let bytes : IsInBytes q h.run = quotient-bytes q (at + length h.blanks) h.run h.no_blank h.spelled in
    let begins : ¬ (BeginsWithBlank (h.run ++ h.rest)) = no_blank_front h.run h.rest (λ e. some_bytes q (subst (IsInBytes q) e bytes)) h.no_blank in
    let s = skips [] h.blanks (h.run ++ h.rest) refl h.are_blanks begins h.joins in
    let place : to ≡ at + 0 + length h.blanks = s.1 in
    let once = run_once (take run left) h.run (drop run left) h.rest no_blank h.no_blank stops (at_blank (at + length h.blanks + length h.run) qs h.rest h.is_rest)
    (take-append-drop run left ∙ s.0) in
    let long : run ≡ length h.run = sym (length-take-le run left le) ∙ ap length once.0 in
    let here : AreSpelled to (quotient_tokens q) front = subst (AreSpelled to (quotient_tokens q)) (sym (ef ∙ once.0))
    (subst (λ p. AreSpelled p (quotient_tokens q) h.run) (let e : at + length h.blanks ≡ to = omega (arith, place) in e) h.spelled) in (
      (reads q [] tt (subst (λ ts. AreSpelled to ts front) (sym (append-nil (quotient_tokens q))) here)).0,
      subst (AreWritten (to + run) qs) (sym (er ∙ once.1))
          (subst (λ p. AreWritten p qs h.rest) (let e : at + length h.blanks + length h.run ≡ to + run = omega (arith, place, long) in e) h.is_rest),
    )

pub word_front : (word rest : List ℕ) → IsWord word → ¬ (BeginsWithBlank (word ++ rest))
word_front [] rest f b = f
word_front (c ∷ cs) rest f b = f b

pub word_behind : (line word : List ℕ) (to : ℕ) (left rest : List ℕ) → IsWord word → Skips 0 line to left → rest ≡ drop (length word) left
    → (n : ℕ) (qs : List WrittenQuotient) → IsSpelling word n qs line → AreWritten (to + length word) qs rest
word_behind line word to left rest f skips er n qs sp =
    let s = skips [] sp.blanks (word ++ sp.behind) refl sp.are_blanks (word_front word sp.behind f) sp.joins in
    let place : to ≡ 0 + 0 + length sp.blanks = s.1 in
    subst (AreWritten (to + length word) qs) (sym (er ∙ ap (drop (length word)) s.0 ∙ drop-append_seam word sp.behind))
    (subst (λ p. AreWritten p qs sp.behind) (let e : length sp.blanks + length word ≡ to + length word = omega (arith, place) in e) sp.are)

pub too_short : (line word : List ℕ) (to : ℕ) (left : List ℕ) → IsWord word → Skips 0 line to left → length left < length word
    → (n : ℕ) (qs : List WrittenQuotient) → IsSpelling word n qs line → ⊥
too_short line word to left f skips short n qs sp =
    let s = skips [] sp.blanks (word ++ sp.behind) refl sp.are_blanks (word_front word sp.behind f) sp.joins in
    let long : length left ≡ length word + length sp.behind = ap length s.0 ∙ length-append word sp.behind in
    omega (arith, long)

pub alike : (r : Quotient) (q : WrittenQuotient) → IsReadAs r q → IsAlike (written_quotient r) q
alike r q h = record { sign = h.sign; numerator = h.numerator; denominator = h.denominator }

-- what is said of three fractions behind blanks
abbrev pub ReadsRow : ℕ → List ℕ → Row → ℕ → List ℕ → Type 0
ReadsRow at text r to left = (x y z : WrittenQuotient) (qs : List WrittenQuotient) → AreWritten at (x ∷ y ∷ z ∷ qs) text
    → IsReadAs r.x x × IsReadAs r.y y × IsReadAs r.z z × AreWritten to qs left

pub row_front : (at b c d : ℕ) (text s t u : List ℕ) (r : Row) → ReadsNext at text r.x b s → ReadsNext b s r.y c t → ReadsNext c t r.z d u → ReadsRow at text r d u
row_front at b c d text s t u r fx fy fz x y z qs h =
    let p = fx x (y ∷ z ∷ qs) h in
    let q = fy y (z ∷ qs) p.1 in
    let l = fz z qs q.1 in
    (p.0, q.0, l.0, l.1)

pub three_alike : (at to : ℕ) (text left : List ℕ) (r : Row) (qs : List WrittenQuotient) → ReadsRow at text r to left → length qs ≡ 3 → AreWritten at qs text
    → AreAlike (written_row r) qs
three_alike at to text left r [] f n h = absurd (omega (arith, n))
three_alike at to text left r (x ∷ []) f n h = absurd (omega (arith, n))
three_alike at to text left r (x ∷ y ∷ []) f n h = absurd (omega (arith, n))
three_alike at to text left r (x ∷ y ∷ z ∷ []) f n h = let p = f x y z [] h in (alike r.x x p.0, (alike r.y y p.1, (alike r.z z p.2, tt)))
three_alike at to text left r (x ∷ y ∷ z ∷ w ∷ qs) f n h = absurd (omega (arith, n))

-- three fractions or more
record HasThree (qs : List WrittenQuotient) : Type 0 where
  pub x : WrittenQuotient
  pub y : WrittenQuotient
  pub z : WrittenQuotient
  pub rest : List WrittenQuotient
  pub are : qs ≡ x ∷ y ∷ z ∷ rest
  pub count : length qs ≡ 3 + length rest

has_three : (qs : List WrittenQuotient) → 3 ≤ length qs → HasThree qs
has_three [] h = absurd (omega (arith, h))
has_three (x ∷ []) h = absurd (omega (arith, h))
has_three (x ∷ y ∷ []) h = absurd (omega (arith, h))
has_three (x ∷ y ∷ z ∷ rest) h = record { x = x; y = y; z = z; rest = rest; are = refl; count = omega arith }

row-alike : (at to : ℕ) (text left : List ℕ) (r : Row) (qs : List WrittenQuotient) (t : HasThree qs) → ReadsRow at text r to left → AreWritten at qs text
    → IsAlike (written_quotient r.x) t.x × IsAlike (written_quotient r.y) t.y × IsAlike (written_quotient r.z) t.z × AreWritten to t.rest left
row-alike at to text left r qs t f h = let p = f t.x t.y t.z t.rest (subst (λ l. AreWritten at l text) t.are h) in (alike r.x t.x p.0, alike r.y t.y p.1, alike r.z t.z p.2, p.3)

pub nine_alike : (at b c d : ℕ) (text s t u : List ℕ) (r : Rows) (qs : List WrittenQuotient) → ReadsRow at text r.first b s → ReadsRow b s r.second c t
    → ReadsRow c t r.third d u → length qs ≡ 9 → AreWritten at qs text → AreAlike (written_rows r) qs
nine_alike at b c d text s t u r qs f g k n h =
    let i = has_three qs (omega (arith, n)) in
    let ni : length qs ≡ 3 + length i.rest = i.count in
    let j = has_three i.rest (omega (arith, n, ni)) in
    let nj : length i.rest ≡ 3 + length j.rest = j.count in
    let p = row-alike at b text s r.first qs i f h in
    let q = row-alike b c s t r.second i.rest j g p.3 in
    let l : AreAlike (written_row r.third) j.rest = three_alike c d t u r.third j.rest k (omega (arith, n, ni, nj)) q.3 in
    subst (AreAlike (written_rows r)) (sym (i.are ∙ ap (λ w. i.x ∷ i.y ∷ i.z ∷ w) j.are)) (p.0, (p.1, (p.2, (q.0, (q.1, (q.2, l))))))
