-- A text writes one operation at most.
--   IsBehindTerm ts, IsBehindComponent ts     the tokens ts may follow a term, or a component: nothing, or a mark of the right sort
--   body_once, later_once, component_once     the tokens tell a term without its sign, the later terms and a component as they are written
--   apart_triplet       in the tokens of a triplet numbers stand apart
--   triplet_once        the tokens tell the components
--   operation_unique    a text writes one operation
use Rattle.std.proofs.Common.{◌≡◌, ◌≢◌, refl, sym, ◌∙◌, ap, ap₂, subst, ℕ, ◌≤◌, Bool, true, false, List, [], ◌∷◌, ◌++◌, append_assoc, length, Option, None, Some, if◌then◌else◌, nat_eq, arith}
use Rattle.irr_algebra.specs.Fin.{Fin}
use Rattle.irr_algebra.specs.Fin.Fin.{first, next}
use Rattle.irr_algebra.proofs.Matrices.{matrix-ext}
use Rattle.irr_space.specs.Operation.{Operation, Rotation, Vector, component}
use Rattle.irr_rat.proofs.Vectors.{vector-ext, each_of_three}
use Rattle.irr_token.specs.Token.{PlacedNumber, Token}
use Rattle.irr_token.specs.Token.Token.{number, mark}
use Rattle.irr_token.specs.Spelling.{AreSpelled, NumbersApart}
use Rattle.irr_token.specs.Quotient.{sign_byte, sign_tokens, over_tokens}
use Rattle.irr_token.specs.Reading.{IsBehindNumber}
use Rattle.irr_token.proofs.Blanks.{blanks_unique, no_blank-spelled}
use Rattle.irr_token.proofs.SpelledOnce.{apart-number, spelled_once}
use Rattle.irr_triplet.specs.declared.term.Letter.{Letter}
use Rattle.irr_triplet.specs.declared.term.Letter.TheVariants as letters
use Rattle.irr_triplet.specs.Letters.{letter_byte}
use Rattle.irr_triplet.specs.WrittenTriplet.{Body, Term, WrittenComponent, WrittenTriplet, upper_byte, coefficient_tokens, body_tokens, later_tokens, component_tokens, quote_tokens, triplet_tokens, IsSpelling}
use Rattle.irr_triplet.specs.WrittenTriplet.Body.{lettered, constant}
use Rattle.irr_triplet.specs.TripletFault.{terms, coefficient, constant_value, IsRowOf, IsValue, IsTextOf}

-- a sign, a comma or a quote: no slash, and no letter
abbrev IsBehindTerm : List Token → Type 0
IsBehindTerm [] = Unit {0}
IsBehindTerm (number n ∷ ts) = ⊥
IsBehindTerm (mark c ∷ ts) = c ≤ 45

-- no sign
abbrev IsBehindComponent : List Token → Type 0
IsBehindComponent [] = Unit {0}
IsBehindComponent (number n ∷ ts) = ⊥
IsBehindComponent (mark c ∷ ts) = (c ≤ 44) × (c ≢ 43)

behind_term : (r : List Token) → IsBehindComponent r → IsBehindTerm r
behind_term [] b = tt
behind_term (number n ∷ r) b = b
behind_term (mark c ∷ r) b = let l : c ≤ 44 = b.0 in omega (arith, l)

behind_number : (r : List Token) → IsBehindTerm r → IsBehindNumber r
behind_number [] b = tt
behind_number (number n ∷ r) b = b
behind_number (mark c ∷ r) b = tt

-- tokens at the front
mark_number : (c : ℕ) (n : PlacedNumber) (ts us : List Token) → mark c ∷ ts ≡ number n ∷ us → ⊥
mark_number c n ts us e = cc

same_marks : (c d : ℕ) (ts us : List Token) → mark c ∷ ts ≡ mark d ∷ us → (c ≡ d) × (ts ≡ us)
same_marks c d ts us e = (cc, cc)

same_numbers : (n m : PlacedNumber) (ts us : List Token) → number n ∷ ts ≡ number m ∷ us → (n ≡ m) × (ts ≡ us)
same_numbers n m ts us e = (cc, cc)

-- the byte of a letter, and back
letter_mark : Bool → Letter → ℕ
letter_mark upper l = if upper then upper_byte l else letter_byte l

letter_large : (upper : Bool) (l : Letter) → 88 ≤ letter_mark upper l
unfolding letter_mark
letter_large true letters.X = omega arith
letter_large true letters.Y = omega arith
letter_large true letters.Z = omega arith
letter_large false letters.X = omega arith
letter_large false letters.Y = omega arith
letter_large false letters.Z = omega arith

letter_of : ℕ → Letter
letter_of c = if nat_eq c 88 then letters.X else (if nat_eq c 120 then letters.X else (if nat_eq c 89 then letters.Y else (if nat_eq c 121 then letters.Y else letters.Z)))

upper_of : ℕ → Bool
upper_of c = if nat_eq c 88 then true else (if nat_eq c 89 then true else nat_eq c 90)

letter_back : (upper : Bool) (l : Letter) → (upper_of (letter_mark upper l) ≡ upper) × (letter_of (letter_mark upper l) ≡ l)
unfolding letter_mark upper_of letter_of
letter_back true letters.X = (refl, refl)
letter_back true letters.Y = (refl, refl)
letter_back true letters.Z = (refl, refl)
letter_back false letters.X = (refl, refl)
letter_back false letters.Y = (refl, refl)
letter_back false letters.Z = (refl, refl)

letter_once : (u v : Bool) (l m : Letter) → letter_mark u l ≡ letter_mark v m → (u ≡ v) × (l ≡ m)
letter_once u v l m e = let a = letter_back u l in let b = letter_back v m in
    (sym a.0 ∙ ap upper_of e ∙ b.0, sym a.1 ∙ ap letter_of e ∙ b.1)

-- no letter may follow a term, nor a slash
no_letter : (u : Bool) (l : Letter) (r s : List Token) → IsBehindTerm r → r ≡ mark (letter_mark u l) ∷ s → ⊥
no_letter u l r s b e = let k : letter_mark u l ≤ 45 = subst IsBehindTerm e b in let large = letter_large u l in omega (arith, k, large)

no_slash : (r s : List Token) → IsBehindTerm r → r ≡ mark 47 ∷ s → ⊥
no_slash r s b e = let k : 47 ≤ 45 = subst IsBehindTerm e b in omega (arith, k)

same_lettered : (n : Option PlacedNumber) (u v : Bool) (l m : Letter) → u ≡ v → l ≡ m → lettered n u l ≡ lettered n v m
same_lettered n u v l m e f = cc

body_once : (a b : Body) (r s : List Token) → IsBehindTerm r → IsBehindTerm s → body_tokens a ++ r ≡ body_tokens b ++ s → (a ≡ b) × (r ≡ s)
unfolding letter_mark
body_once (lettered None u l) (lettered None v m) r s p q e =
    let k = same_marks (letter_mark u l) (letter_mark v m) r s e in
    let f = letter_once u v l m k.0 in
    (same_lettered None u v l m f.0 f.1, k.1)
body_once (lettered None u l) (lettered (Some m) v k) r s p q e = absurd (mark_number (letter_mark u l) m r (mark (letter_mark v k) ∷ s) e)
body_once (lettered None u l) (constant m d) r s p q e = absurd (mark_number (letter_mark u l) m r (over_tokens d ++ s) e)
body_once (lettered (Some n) u l) (lettered None v m) r s p q e = absurd (mark_number (letter_mark v m) n s (mark (letter_mark u l) ∷ r) (sym e))
body_once (lettered (Some n) u l) (lettered (Some m) v k) r s p q e =
    let a = same_numbers n m (mark (letter_mark u l) ∷ r) (mark (letter_mark v k) ∷ s) e in
    let b = same_marks (letter_mark u l) (letter_mark v k) r s a.1 in
    let f = letter_once u v l k b.0 in
    (ap (λ x. lettered (Some x) u l) a.0 ∙ same_lettered (Some m) u v l k f.0 f.1, b.1)
body_once (lettered (Some n) u l) (constant m None) r s p q e =
    absurd (no_letter u l s r q (sym (same_numbers n m (mark (letter_mark u l) ∷ r) s e).1))
body_once (lettered (Some n) u l) (constant m (Some d)) r s p q e =
    let a = same_numbers n m (mark (letter_mark u l) ∷ r) (mark 47 ∷ number d ∷ s) e in
    let b = same_marks (letter_mark u l) 47 r (number d ∷ s) a.1 in
    let large = letter_large u l in
    let c : letter_mark u l ≡ 47 = b.0 in absurd (omega (arith, large, c))
body_once (constant n d) (lettered None v m) r s p q e = absurd (mark_number (letter_mark v m) n s (over_tokens d ++ r) (sym e))
body_once (constant n None) (lettered (Some m) v k) r s p q e =
    absurd (no_letter v k r s p (same_numbers n m r (mark (letter_mark v k) ∷ s) e).1)
body_once (constant n (Some d)) (lettered (Some m) v k) r s p q e =
    let a = same_numbers n m (mark 47 ∷ number d ∷ r) (mark (letter_mark v k) ∷ s) e in
    let b = same_marks 47 (letter_mark v k) (number d ∷ r) s a.1 in
    let large = letter_large v k in
    let c : 47 ≡ letter_mark v k = b.0 in absurd (omega (arith, large, c))
body_once (constant n None) (constant m None) r s p q e = let a = same_numbers n m r s e in (ap (λ x. constant x None) a.0, a.1)
body_once (constant n None) (constant m (Some d)) r s p q e = absurd (no_slash r (number d ∷ s) p (same_numbers n m r (mark 47 ∷ number d ∷ s) e).1)
body_once (constant n (Some d)) (constant m None) r s p q e =
    absurd (no_slash s (number d ∷ r) q (sym (same_numbers n m (mark 47 ∷ number d ∷ r) s e).1))
body_once (constant n (Some d)) (constant m (Some f)) r s p q e =
    let a = same_numbers n m (mark 47 ∷ number d ∷ r) (mark 47 ∷ number f ∷ s) e in
    let b = same_marks 47 47 (number d ∷ r) (number f ∷ s) a.1 in
    let c = same_numbers d f r s b.1 in
    (ap₂ (λ x y. constant x (Some y)) a.0 c.0, c.1)

-- signs
sign_small : (b : Bool) → sign_byte b ≤ 45
sign_small true = omega arith
sign_small false = omega arith

sign_once : (b c : Bool) → sign_byte b ≡ sign_byte c → b ≡ c
sign_once true true e = refl
sign_once true false e = absurd (let g : 45 ≡ 43 = e in omega (arith, g))
sign_once false true e = absurd (let g : 43 ≡ 45 = e in omega (arith, g))
sign_once false false e = refl

no_sign : (b : Bool) (r s : List Token) → IsBehindComponent r → r ≡ mark (sign_byte b) ∷ s → ⊥
no_sign true r s p e = let k = subst IsBehindComponent e p in let l : 45 ≤ 44 = k.0 in omega (arith, l)
no_sign false r s p e = (subst IsBehindComponent e p).1 refl

behind_later : (ts : List Term) (r : List Token) → IsBehindComponent r → IsBehindTerm (later_tokens ts ++ r)
behind_later [] r p = behind_term r p
behind_later (t ∷ ts) r p = sign_small t.negative

same_term : (b c : Bool) (x y : Body) → b ≡ c → x ≡ y → ◌≡◌ {A = Term} (record { negative = b; body = x }) (record { negative = c; body = y })
same_term b c x y e f = cc

later_once : (ts us : List Term) (r s : List Token) → IsBehindComponent r → IsBehindComponent s → later_tokens ts ++ r ≡ later_tokens us ++ s
    → (ts ≡ us) × (r ≡ s)
later_once [] [] r s p q e = (refl, e)
later_once [] (u ∷ us) r s p q e = absurd (no_sign u.negative r ((body_tokens u.body ++ later_tokens us) ++ s) p e)
later_once (t ∷ ts) [] r s p q e = absurd (no_sign t.negative s ((body_tokens t.body ++ later_tokens ts) ++ r) q (sym e))
later_once (t ∷ ts) (u ∷ us) r s p q e =
    let a = same_marks (sign_byte t.negative) (sign_byte u.negative) ((body_tokens t.body ++ later_tokens ts) ++ r)
    ((body_tokens u.body ++ later_tokens us) ++ s) e in
    let b = body_once t.body u.body (later_tokens ts ++ r) (later_tokens us ++ s) (behind_later ts r p) (behind_later us s q)
    (sym (append_assoc (body_tokens t.body) (later_tokens ts) r) ∙ a.1 ∙ append_assoc (body_tokens u.body) (later_tokens us) s) in
    let c = later_once ts us r s p q b.1 in
    (ap₂ (λ x xs. x ∷ xs) (same_term t.negative u.negative t.body u.body (sign_once t.negative u.negative a.0) b.0) c.0, c.1)

-- a term without its sign begins with a number or a letter
body_front : (b : Body) (c : ℕ) (r s : List Token) → body_tokens b ++ r ≡ mark c ∷ s → 88 ≤ c
unfolding letter_mark
body_front (lettered None u l) c r s e = subst (λ k. 88 ≤ k) (same_marks (letter_mark u l) c r s e).0 (letter_large u l)
body_front (lettered (Some n) u l) c r s e = absurd (mark_number c n s (mark (letter_mark u l) ∷ r) (sym e))
body_front (constant n d) c r s e = absurd (mark_number c n s (over_tokens d ++ r) (sym e))

no_front_sign : (b : Body) (c : Bool) (r s : List Token) → body_tokens b ++ r ≡ mark (sign_byte c) ∷ s → ⊥
no_front_sign b c r s e = let k = body_front b (sign_byte c) r s e in let l = sign_small c in omega (arith, k, l)

same_component : (s t : Option Bool) (a b : Body) (ts us : List Term) → s ≡ t → a ≡ b → ts ≡ us
    → ◌≡◌ {A = WrittenComponent} (record { sign = s; front = a; later = ts }) (record { sign = t; front = b; later = us })
same_component s t a b ts us e f g = cc

signed_once : (s t : Option Bool) (a b : Body) (r q : List Token) → sign_tokens s ++ (body_tokens a ++ r) ≡ sign_tokens t ++ (body_tokens b ++ q)
    → (s ≡ t) × (body_tokens a ++ r ≡ body_tokens b ++ q)
signed_once None None a b r q e = (refl, e)
signed_once None (Some c) a b r q e = absurd (no_front_sign a c r (body_tokens b ++ q) e)
signed_once (Some c) None a b r q e = absurd (no_front_sign b c q (body_tokens a ++ r) (sym e))
signed_once (Some c) (Some d) a b r q e = let k = same_marks (sign_byte c) (sign_byte d) (body_tokens a ++ r) (body_tokens b ++ q) e in
    (ap Some (sign_once c d k.0), k.1)

-- a component and what follows it, part by part
opened : (c : WrittenComponent) (r : List Token) → component_tokens c ++ r ≡ sign_tokens c.sign ++ (body_tokens c.front ++ (later_tokens c.later ++ r))
opened c r = append_assoc (sign_tokens c.sign) (body_tokens c.front ++ later_tokens c.later) r
    ∙ ap (λ k. sign_tokens c.sign ++ k) (append_assoc (body_tokens c.front) (later_tokens c.later) r)

component_once : (c d : WrittenComponent) (r s : List Token) → IsBehindComponent r → IsBehindComponent s
    → component_tokens c ++ r ≡ component_tokens d ++ s → (c ≡ d) × (r ≡ s)
component_once c d r s p q e =
    let a = signed_once c.sign d.sign c.front d.front (later_tokens c.later ++ r) (later_tokens d.later ++ s) (sym (opened c r) ∙ e ∙ opened d s) in
    let b = body_once c.front d.front (later_tokens c.later ++ r) (later_tokens d.later ++ s) (behind_later c.later r p) (behind_later d.later s q) a.1 in
    let l = later_once c.later d.later r s p q b.1 in
    (same_component c.sign d.sign c.front d.front c.later d.later a.0 b.0 l.0, l.1)

-- a component begins with no quote
component_front : (c : WrittenComponent) (k : ℕ) (r s : List Token) → component_tokens c ++ r ≡ mark k ∷ s → 43 ≤ k
component_front c k r s e = front c.sign (sym (opened c r) ∙ e)
  where
    front : (t : Option Bool) → sign_tokens t ++ (body_tokens c.front ++ (later_tokens c.later ++ r)) ≡ mark k ∷ s → 43 ≤ k
    front None f = let l = body_front c.front k (later_tokens c.later ++ r) s f in omega (arith, l)
    front (Some true) f = let g : 45 ≡ k = (same_marks 45 k (body_tokens c.front ++ (later_tokens c.later ++ r)) s f).0 in omega (arith, g)
    front (Some false) f = let g : 43 ≡ k = (same_marks 43 k (body_tokens c.front ++ (later_tokens c.later ++ r)) s f).0 in omega (arith, g)

-- numbers apart
apart-lettered : (n : Option PlacedNumber) (c : ℕ) (r : List Token) → NumbersApart r → NumbersApart (coefficient_tokens n ++ (mark c ∷ r))
apart-lettered None c r a = a
apart-lettered (Some n) c r a = a

apart-body : (b : Body) (r : List Token) → IsBehindTerm r → NumbersApart r → NumbersApart (body_tokens b ++ r)
apart-body (lettered n u l) r p a = subst NumbersApart (sym (append_assoc (coefficient_tokens n) (mark (if u then upper_byte l else letter_byte l) ∷ []) r))
    (apart-lettered n (if u then upper_byte l else letter_byte l) r a)
apart-body (constant n None) r p a = apart-number n r (behind_number r p) a
apart-body (constant n (Some d)) r p a = apart-number d r (behind_number r p) a

apart-later : (ts : List Term) (r : List Token) → IsBehindComponent r → NumbersApart r → NumbersApart (later_tokens ts ++ r)
apart-later [] r p a = a
apart-later (t ∷ ts) r p a = subst NumbersApart (sym (append_assoc (body_tokens t.body) (later_tokens ts) r))
    (apart-body t.body (later_tokens ts ++ r) (behind_later ts r p) (apart-later ts r p a))

apart-signed : (s : Option Bool) (ts : List Token) → NumbersApart ts → NumbersApart (sign_tokens s ++ ts)
apart-signed None ts a = a
apart-signed (Some b) ts a = a

apart-component : (c : WrittenComponent) (r : List Token) → IsBehindComponent r → NumbersApart r → NumbersApart (component_tokens c ++ r)
apart-component c r p a = subst NumbersApart (sym (opened c r)) (apart-signed c.sign (body_tokens c.front ++ (later_tokens c.later ++ r))
    (apart-body c.front (later_tokens c.later ++ r) (behind_later c.later r p) (apart-later c.later r p a)))

apart-quote : (q : Option Bool) (ts : List Token) → NumbersApart ts → NumbersApart (quote_tokens q ++ ts)
apart-quote None ts a = a
apart-quote (Some b) ts a = a

last_quote : (q : Option Bool) → IsBehindComponent (quote_tokens q) × NumbersApart (quote_tokens q)
last_quote None = (tt, tt)
last_quote (Some true) = ((omega arith, λ e. omega (arith, e)), tt)
last_quote (Some false) = ((omega arith, λ e. omega (arith, e)), tt)

comma : (ts : List Token) → IsBehindComponent (mark 44 ∷ ts)
comma ts = (omega arith, λ e. omega (arith, e))

pub apart_triplet : (t : WrittenTriplet) → NumbersApart (triplet_tokens t)
apart_triplet t =
    let last = component_tokens t.z ++ quote_tokens t.quote in
    let second = component_tokens t.y ++ (mark 44 ∷ last) in
    let q = last_quote t.quote in
    apart-quote t.quote (component_tokens t.x ++ (mark 44 ∷ second)) (apart-component t.x (mark 44 ∷ second) (comma second)
    (apart-component t.y (mark 44 ∷ last) (comma last) (apart-component t.z (quote_tokens t.quote) q.0 q.1)))

tail_once : (c : ℕ) (ts us : List Token) → mark c ∷ ts ≡ mark c ∷ us → ts ≡ us
tail_once c ts us e = cc

quote_small : (b : Bool) → (if b then 34 else 39) ≤ 39
quote_small true = omega arith
quote_small false = omega arith

-- what stands behind the first quote, if there is one
unquoted : (p q : Option Bool) (c d : WrittenComponent) (r s : List Token)
    → quote_tokens p ++ (component_tokens c ++ r) ≡ quote_tokens q ++ (component_tokens d ++ s) → component_tokens c ++ r ≡ component_tokens d ++ s
unquoted None None c d r s e = e
unquoted None (Some b) c d r s e = absurd (let k = component_front c (if b then 34 else 39) r (component_tokens d ++ s) e in
    let l = quote_small b in omega (arith, k, l))
unquoted (Some b) None c d r s e = absurd (let k = component_front d (if b then 34 else 39) s (component_tokens c ++ r) (sym e) in
    let l = quote_small b in omega (arith, k, l))
unquoted (Some a) (Some b) c d r s e = (same_marks (if a then 34 else 39) (if b then 34 else 39) (component_tokens c ++ r) (component_tokens d ++ s) e).1

pub triplet_once : (t u : WrittenTriplet) → triplet_tokens t ≡ triplet_tokens u → (t.x ≡ u.x) × (t.y ≡ u.y) × (t.z ≡ u.z)
triplet_once t u e =
    let last = component_tokens t.z ++ quote_tokens t.quote in
    let other = component_tokens u.z ++ quote_tokens u.quote in
    let second = component_tokens t.y ++ (mark 44 ∷ last) in
    let another = component_tokens u.y ++ (mark 44 ∷ other) in
    let x = component_once t.x u.x (mark 44 ∷ second) (mark 44 ∷ another) (comma second) (comma another)
    (unquoted t.quote u.quote t.x u.x (mark 44 ∷ second) (mark 44 ∷ another) e) in
    let y = component_once t.y u.y (mark 44 ∷ last) (mark 44 ∷ other) (comma last) (comma other) (tail_once 44 second another x.1) in
    let z = component_once t.z u.z (quote_tokens t.quote) (quote_tokens u.quote) (last_quote t.quote).0 (last_quote u.quote).0
    (tail_once 44 last other y.1) in
    (x.0, y.0, z.0)

-- the tokens of two spellings
module _ (text : List ℕ) (t u : WrittenTriplet) (a : IsSpelling t text) (b : IsSpelling u text) where
  starts : (a.blanks ≡ b.blanks) × (a.rest ≡ b.rest)
  starts = blanks_unique a.blanks b.blanks a.rest b.rest a.are_blanks b.are_blanks (no_blank-spelled (length a.blanks) (triplet_tokens t) a.rest a.spelled)
      (no_blank-spelled (length b.blanks) (triplet_tokens u) b.rest b.spelled) (sym a.joins ∙ b.joins)

  tokens_same : triplet_tokens t ≡ triplet_tokens u
  tokens_same = spelled_once (length a.blanks) (triplet_tokens t) (triplet_tokens u) a.rest (apart_triplet t) (apart_triplet u) a.spelled
      (subst (λ k. AreSpelled (length k) (triplet_tokens u) a.rest) (sym starts.0)
      (subst (AreSpelled (length b.blanks) (triplet_tokens u)) (sym starts.1) b.spelled))

same_operation : (r s : Rotation) (v w : Vector) → r ≡ s → v ≡ w → ◌≡◌ {A = Operation} (record { rotation = r; vector = v }) (record { rotation = s; vector = w })
same_operation r s v w e f = cc

module _ (g h : Operation) (ts us : List Term) (i : Fin 3) (p : IsRowOf ts g i) (q : IsRowOf us h i) (e : ts ≡ us) where
  same_row : (j : Fin 3) → g.rotation.at i j ≡ h.rotation.at i j
  same_row = each_of_three (λ j. g.rotation.at i j ≡ h.rotation.at i j) (p.at_x ∙ ap (coefficient letters.X) e ∙ sym q.at_x)
      (p.at_y ∙ ap (coefficient letters.Y) e ∙ sym q.at_y) (p.at_z ∙ ap (coefficient letters.Z) e ∙ sym q.at_z)

  same_shift : component g.vector i ≡ component h.vector i
  same_shift = p.shift ∙ ap constant_value e ∙ sym q.shift

pub value_unique : (t u : WrittenTriplet) (g h : Operation) → t.x ≡ u.x → t.y ≡ u.y → t.z ≡ u.z → IsValue t g → IsValue u h → g ≡ h
value_unique t u g h x y z p q =
    same_operation g.rotation h.rotation g.vector h.vector
    (matrix-ext (λ i j. each_of_three (λ k. (l : Fin 3) → g.rotation.at k l ≡ h.rotation.at k l)
    (same_row g h (terms t.x) (terms u.x) first p.x q.x (ap terms x)) (same_row g h (terms t.y) (terms u.y) (next first) p.y q.y (ap terms y))
    (same_row g h (terms t.z) (terms u.z) (next (next first)) p.z q.z (ap terms z)) i j))
    (vector-ext g.vector h.vector (each_of_three (λ k. component g.vector k ≡ component h.vector k)
    (same_shift g h (terms t.x) (terms u.x) first p.x q.x (ap terms x)) (same_shift g h (terms t.y) (terms u.y) (next first) p.y q.y (ap terms y))
    (same_shift g h (terms t.z) (terms u.z) (next (next first)) p.z q.z (ap terms z))))

pub operation_unique : (text : List ℕ) (g h : Operation) → IsTextOf text g → IsTextOf text h → g ≡ h
operation_unique text g h a b =
    let once = triplet_once a.triplet b.triplet (tokens_same text a.triplet b.triplet a.spells b.spells) in
    value_unique a.triplet b.triplet g h once.0 once.1 once.2 a.written.2 b.written.2
