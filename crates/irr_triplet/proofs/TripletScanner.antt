-- The fronts of triplets' texts as states of a recogniser of tokens.
--   triplet_scanner      the fronts, of which those that no text completes count as ends; they do not come
--   is_live f            a text completes the front: a term that must come has a slot
--   IsOfSort s c         c is a mark of the sort s
--   sort_is, sort-mark   each mark is of its sort, and is no blank and no digit
--   IsInner s            tokens of the sort s stand in no place but components
--   behind-none, next-within     such a token is no end of a component
--   none_other, once     no other mark stands in a text, and no number behind a number
--   unless, if_within, if_some-at     what holds of each next front
--   live-next            what follows a front that a text completes is one
use Rattle.std.proofs.Common.{◌≡◌, ◌≢◌, refl, sym, ◌∙◌, ap, subst, ℕ, Bool, true, false, Option, None, Some, IfSome, if◌then◌else◌, nat_eq, ◌||◌, not, arith, ◌⊎◌, inl, inr}
use Rattle.std.specs.Option.{option_or}
use Rattle.std.proofs.lemmas.Bool.Decides.{nat_tests}
use Rattle.irr_token.specs.declared.kind.Kind.TheVariants.{Mark}
use Rattle.irr_token.specs.Kinds.{kind_of}
use Rattle.irr_token.specs.Token.{Symbol}
use Rattle.irr_token.specs.Token.Symbol.{digits, byte}
use Rattle.irr_token.proofs.Lexing.{Scanner}
use Rattle.irr_triplet.specs.declared.shape.Slot.{Slot}
use Rattle.irr_triplet.specs.declared.shape.Slot.TheVariants.{X, Y, Z, Constant}
use Rattle.irr_triplet.specs.declared.shape.Sort.{Sort}
use Rattle.irr_triplet.specs.declared.shape.Sort.TheVariants.{Number, Sign, Slash, Comma, Single, Double, Letter, Other}
use Rattle.irr_triplet.specs.declared.shape.Quote.{Quote}
use Rattle.irr_triplet.specs.declared.shape.Quote.TheVariants.{Unquoted, InSingle, InDouble}
use Rattle.irr_triplet.specs.declared.shape.Part.{Part}
use Rattle.irr_triplet.specs.declared.shape.Part.TheVariants.{First, Second, Third}
use Rattle.irr_triplet.specs.declared.shape.Used.{Used}
use Rattle.irr_triplet.specs.declared.shape.At.{At}
use Rattle.irr_triplet.specs.declared.shape.At.TheVariants.{Start, Signed, Coefficient, Over, Behind}
use Rattle.irr_triplet.specs.declared.shape.Front.{Front}
use Rattle.irr_triplet.specs.declared.shape.Front.TheVariants.{Before, Within, Closed}
use Rattle.irr_triplet.specs.TripletFront.{sort_of, is_used, with_slot, is_full, unused, lettered, signed, signed_behind_number, next_at, ended, behind, opening, next_within, next_front, ends_triplet}

abbrev pub symbol_sort : Symbol → Sort
symbol_sort digits = Number
symbol_sort (byte c) = sort_of c

abbrev pub is_live : Front → Bool
is_live (Within q p u Start) = not (is_full u)
is_live (Within q p u Signed) = not (is_full u)
is_live (Within q p u Coefficient) = not (is_full u)
is_live f = true

abbrev pub triplet_scanner : Scanner
triplet_scanner = record { State = Front; start = Before; next = λ f x. next_front f (symbol_sort x); ends = λ f. ends_triplet f || not (is_live f); rests = λ f. true }

-- What a mark is.

by_test : {A : Type 0} (P : A → Type 0) (b : Bool) (x y : A) → (b ≡ true → P x) → P y → P (if b then x else y)
by_test P true x y f g = f refl
by_test P false x y f g = g

abbrev pub IsLetterByte : Slot → ℕ → Type 0
IsLetterByte X c = (c ≡ 120) ⊎ (c ≡ 88)
IsLetterByte Y c = (c ≡ 121) ⊎ (c ≡ 89)
IsLetterByte Z c = (c ≡ 122) ⊎ (c ≡ 90)
IsLetterByte Constant c = ⊥

abbrev pub IsOfSort : Sort → ℕ → Type 0
IsOfSort Number c = ⊥
IsOfSort Sign c = (c ≡ 43) ⊎ (c ≡ 45)
IsOfSort Slash c = c ≡ 47
IsOfSort Comma c = c ≡ 44
IsOfSort Single c = c ≡ 39
IsOfSort Double c = c ≡ 34
IsOfSort (Letter s) c = IsLetterByte s c
IsOfSort Other c = Unit {0}

same : (c n : ℕ) → nat_eq c n ≡ true → c ≡ n
same c n h = grind (arith, nat_tests)

either : (c m n : ℕ) → nat_eq c m || nat_eq c n ≡ true → (c ≡ m) ⊎ (c ≡ n)
either c m n h = elim (of_tests (nat_eq c m) (nat_eq c n) h) [ inl e ↦ inl (same c m e) | inr e ↦ inr (same c n e) ]
  where
    of_tests : (a b : Bool) → a || b ≡ true → (a ≡ true) ⊎ (b ≡ true)
    of_tests true b g = inl refl
    of_tests false b g = inr g

pub sort_is : (c : ℕ) → IsOfSort (sort_of c) c
sort_is c = let P : Sort → Type 0 = λ s. IsOfSort s c in
    by_test P (nat_eq c 43 || nat_eq c 45) Sign _ (either c 43 45)
    (by_test P (nat_eq c 47) Slash _ (same c 47)
    (by_test P (nat_eq c 44) Comma _ (same c 44)
    (by_test P (nat_eq c 39) Single _ (same c 39)
    (by_test P (nat_eq c 34) Double _ (same c 34)
    (by_test P (nat_eq c 120 || nat_eq c 88) (Letter X) _ (either c 120 88)
    (by_test P (nat_eq c 121 || nat_eq c 89) (Letter Y) _ (either c 121 89)
    (by_test P (nat_eq c 122 || nat_eq c 90) (Letter Z) Other (either c 122 90) tt)))))))

letter-mark : (s : Slot) (c : ℕ) → IsLetterByte s c → kind_of c ≡ Mark
letter-mark X c (inl e) = ap kind_of e
letter-mark X c (inr e) = ap kind_of e
letter-mark Y c (inl e) = ap kind_of e
letter-mark Y c (inr e) = ap kind_of e
letter-mark Z c (inl e) = ap kind_of e
letter-mark Z c (inr e) = ap kind_of e
letter-mark Constant c e = absurd e

pub sort-mark : (s : Sort) (c : ℕ) → IsOfSort s c → s ≢ Other → kind_of c ≡ Mark
sort-mark Number c e n = absurd e
sort-mark Sign c (inl e) n = ap kind_of e
sort-mark Sign c (inr e) n = ap kind_of e
sort-mark Slash c e n = ap kind_of e
sort-mark Comma c e n = ap kind_of e
sort-mark Single c e n = ap kind_of e
sort-mark Double c e n = ap kind_of e
sort-mark (Letter s) c e n = letter-mark s c e
sort-mark Other c e n = absurd (n refl)

-- A token in a component.

abbrev pub IsInner : Sort → Type 0
IsInner Comma = ⊥
IsInner Single = ⊥
IsInner Double = ⊥
IsInner s = Unit {0}

pub behind-none : (q : Quote) (p : Part) (s : Sort) → IsInner s → behind q p s ≡ None
behind-none Unquoted First Number h = refl
behind-none Unquoted First Sign h = refl
behind-none Unquoted First Slash h = refl
behind-none Unquoted First (Letter t) h = refl
behind-none Unquoted First Other h = refl
behind-none InSingle First Number h = refl
behind-none InSingle First Sign h = refl
behind-none InSingle First Slash h = refl
behind-none InSingle First (Letter t) h = refl
behind-none InSingle First Other h = refl
behind-none InDouble First Number h = refl
behind-none InDouble First Sign h = refl
behind-none InDouble First Slash h = refl
behind-none InDouble First (Letter t) h = refl
behind-none InDouble First Other h = refl
behind-none Unquoted Second Number h = refl
behind-none Unquoted Second Sign h = refl
behind-none Unquoted Second Slash h = refl
behind-none Unquoted Second (Letter t) h = refl
behind-none Unquoted Second Other h = refl
behind-none InSingle Second Number h = refl
behind-none InSingle Second Sign h = refl
behind-none InSingle Second Slash h = refl
behind-none InSingle Second (Letter t) h = refl
behind-none InSingle Second Other h = refl
behind-none InDouble Second Number h = refl
behind-none InDouble Second Sign h = refl
behind-none InDouble Second Slash h = refl
behind-none InDouble Second (Letter t) h = refl
behind-none InDouble Second Other h = refl
behind-none Unquoted Third Number h = refl
behind-none Unquoted Third Sign h = refl
behind-none Unquoted Third Slash h = refl
behind-none Unquoted Third (Letter t) h = refl
behind-none Unquoted Third Other h = refl
behind-none InSingle Third Number h = refl
behind-none InSingle Third Sign h = refl
behind-none InSingle Third Slash h = refl
behind-none InSingle Third (Letter t) h = refl
behind-none InSingle Third Other h = refl
behind-none InDouble Third Number h = refl
behind-none InDouble Third Sign h = refl
behind-none InDouble Third Slash h = refl
behind-none InDouble Third (Letter t) h = refl
behind-none InDouble Third Other h = refl
behind-none q p Comma h = absurd h
behind-none q p Single h = absurd h
behind-none q p Double h = absurd h

pub next-within : (q : Quote) (p : Part) (u : Used) (a : At) (s : Sort) → IsInner s → next_within q p u a s ≡ next_at q p u a s
next-within q p u a s h = by_end (ended u a) (behind q p s) (next_at q p u a s) (behind-none q p s h)
  where
    by_end : (b : Bool) (o x : Option Front) → o ≡ None → (if b then option_or o x else x) ≡ x
    by_end true o x e = ap (λ l. option_or l x) e
    by_end false o x e = refl

other-none : (q : Quote) (p : Part) (u : Used) (a : At) → next_at q p u a Other ≡ None
other-none q p u Start = refl
other-none q p u Signed = refl
other-none q p u Coefficient = refl
other-none q p u Over = refl
other-none q p u Behind = refl

pub none_other : (f : Front) → next_front f Other ≡ None
none_other Before = refl
none_other (Within q p u a) = next-within q p u a Other tt ∙ other-none q p u a
none_other Closed = refl

behind-number : (q : Quote) (p : Part) (u : Used) → next_front (Within q p u Coefficient) Number ≡ None
behind-number q p u = next-within q p u Coefficient Number tt

behind-term : (q : Quote) (p : Part) (u : Used) → next_front (Within q p u Behind) Number ≡ None
behind-term q p u = next-within q p u Behind Number tt

once_at : (q : Quote) (p : Part) (u : Used) (a : At) (g : Front) → next_at q p u a Number ≡ Some g → next_front g Number ≡ None
once_at q p u Start g e = let same : Within q p u Coefficient ≡ g = cc in subst (λ f. next_front f Number ≡ None) same (behind-number q p u)
once_at q p u Signed g e = let same : Within q p u Coefficient ≡ g = cc in subst (λ f. next_front f Number ≡ None) same (behind-number q p u)
once_at q p u Over g e = let same : Within q p u Behind ≡ g = cc in subst (λ f. next_front f Number ≡ None) same (behind-term q p u)
once_at q p u Coefficient g e = absurd (cc)
once_at q p u Behind g e = absurd (cc)

pub once : (f g : Front) → next_front f Number ≡ Some g → next_front g Number ≡ None
once Before g e = once_at Unquoted First unused Start g e
once (Within q p u a) g e = once_at q p u a g (sym (next-within q p u a Number tt) ∙ e)
once Closed g e = absurd (cc)

-- What holds of each next front.

pub unless : (P : Front → Type 0) (b : Bool) (g : Front) → (b ≡ false → P g) → IfSome (if b then None else Some g) P
unless P true g h = tt
unless P false g h = h refl

pub if_within : (P : Front → Type 0) (q : Quote) (p : Part) (u : Used) (a : At) (s : Sort) → (ended u a ≡ true → IfSome (behind q p s) P) → IfSome (next_at q p u a s) P → IfSome (next_within q p u a s) P
if_within P q p u a s h g = by_end (ended u a) (behind q p s) (next_at q p u a s) h g
  where
    by_end : (b : Bool) (o x : Option Front) → (b ≡ true → IfSome o P) → IfSome x P → IfSome (if b then option_or o x else x) P
    by_end true None x f e = e
    by_end true (Some y) x f e = f refl
    by_end false o x f e = e

pub if_some-at : (o : Option Front) (P : Front → Type 0) (f : Front) → o ≡ Some f → IfSome o P → P f
if_some-at o P f e h = let Q : Option Front → Type 0 = λ u. IfSome u P in subst Q e h

-- Fronts that a text completes.

abbrev IsLive : Front → Type 0
IsLive f = is_live f ≡ true

live-behind : (q : Quote) (p : Part) (s : Sort) → IfSome (behind q p s) IsLive
live-behind Unquoted First Number = tt
live-behind Unquoted First Sign = tt
live-behind Unquoted First Slash = tt
live-behind Unquoted First Comma = refl
live-behind Unquoted First Single = tt
live-behind Unquoted First Double = tt
live-behind Unquoted First (Letter t) = tt
live-behind Unquoted First Other = tt
live-behind Unquoted Second Number = tt
live-behind Unquoted Second Sign = tt
live-behind Unquoted Second Slash = tt
live-behind Unquoted Second Comma = refl
live-behind Unquoted Second Single = tt
live-behind Unquoted Second Double = tt
live-behind Unquoted Second (Letter t) = tt
live-behind Unquoted Second Other = tt
live-behind Unquoted Third Number = tt
live-behind Unquoted Third Sign = tt
live-behind Unquoted Third Slash = tt
live-behind Unquoted Third Comma = tt
live-behind Unquoted Third Single = tt
live-behind Unquoted Third Double = tt
live-behind Unquoted Third (Letter t) = tt
live-behind Unquoted Third Other = tt
live-behind InSingle First Number = tt
live-behind InSingle First Sign = tt
live-behind InSingle First Slash = tt
live-behind InSingle First Comma = refl
live-behind InSingle First Single = tt
live-behind InSingle First Double = tt
live-behind InSingle First (Letter t) = tt
live-behind InSingle First Other = tt
live-behind InSingle Second Number = tt
live-behind InSingle Second Sign = tt
live-behind InSingle Second Slash = tt
live-behind InSingle Second Comma = refl
live-behind InSingle Second Single = tt
live-behind InSingle Second Double = tt
live-behind InSingle Second (Letter t) = tt
live-behind InSingle Second Other = tt
live-behind InSingle Third Number = tt
live-behind InSingle Third Sign = tt
live-behind InSingle Third Slash = tt
live-behind InSingle Third Comma = tt
live-behind InSingle Third Single = refl
live-behind InSingle Third Double = tt
live-behind InSingle Third (Letter t) = tt
live-behind InSingle Third Other = tt
live-behind InDouble First Number = tt
live-behind InDouble First Sign = tt
live-behind InDouble First Slash = tt
live-behind InDouble First Comma = refl
live-behind InDouble First Single = tt
live-behind InDouble First Double = tt
live-behind InDouble First (Letter t) = tt
live-behind InDouble First Other = tt
live-behind InDouble Second Number = tt
live-behind InDouble Second Sign = tt
live-behind InDouble Second Slash = tt
live-behind InDouble Second Comma = refl
live-behind InDouble Second Single = tt
live-behind InDouble Second Double = tt
live-behind InDouble Second (Letter t) = tt
live-behind InDouble Second Other = tt
live-behind InDouble Third Number = tt
live-behind InDouble Third Sign = tt
live-behind InDouble Third Slash = tt
live-behind InDouble Third Comma = tt
live-behind InDouble Third Single = tt
live-behind InDouble Third Double = refl
live-behind InDouble Third (Letter t) = tt
live-behind InDouble Third Other = tt

live-lettered : (q : Quote) (p : Part) (u : Used) (s : Slot) → IfSome (lettered q p u s) IsLive
live-lettered q p u s = unless IsLive (is_used u s) (Within q p (with_slot u s) Behind) (λ _. refl)

live-signed : (q : Quote) (p : Part) (u : Used) → IfSome (signed q p u) IsLive
live-signed q p u = unless IsLive (is_full u) (Within q p u Signed) (λ e. ap not e)

live-signed_behind_number : (q : Quote) (p : Part) (u : Used) → IfSome (signed_behind_number q p u) IsLive
live-signed_behind_number q p u = by_used u.constant
  where
    by_used : (b : Bool) → IfSome (if b then None else signed q p (with_slot u Constant)) IsLive
    by_used true = tt
    by_used false = live-signed q p (with_slot u Constant)

live-at : (q : Quote) (p : Part) (u : Used) (a : At) (s : Sort) → IsLive (Within q p u a) → IfSome (next_at q p u a s) IsLive
live-at q p u Start Sign l = l
live-at q p u Start Number l = l
live-at q p u Start (Letter s) l = live-lettered q p u s
live-at q p u Start s l = tt
live-at q p u Signed Number l = l
live-at q p u Signed (Letter s) l = live-lettered q p u s
live-at q p u Signed s l = tt
live-at q p u Coefficient (Letter s) l = live-lettered q p u s
live-at q p u Coefficient Slash l = unless IsLive u.constant (Within q p (with_slot u Constant) Over) (λ _. refl)
live-at q p u Coefficient Sign l = live-signed_behind_number q p u
live-at q p u Coefficient s l = tt
live-at q p u Over Number l = refl
live-at q p u Over s l = tt
live-at q p u Behind Sign l = live-signed q p u
live-at q p u Behind s l = tt

live-opening : (s : Sort) → IfSome (opening s) IsLive
live-opening Single = refl
live-opening Double = refl
live-opening Number = refl
live-opening Sign = refl
live-opening Slash = tt
live-opening Comma = tt
live-opening (Letter s) = live-lettered Unquoted First unused s
live-opening Other = tt

live-more : (f : Front) (s : Sort) → IsLive f → IfSome (next_front f s) IsLive
live-more Before s l = live-opening s
live-more (Within q p u a) s l = if_within IsLive q p u a s (λ _. live-behind q p s) (live-at q p u a s l)
live-more Closed s l = tt

pub live-next : (f g : Front) (s : Sort) → next_front f s ≡ Some g → IsLive f → IsLive g
live-next f g s e l = if_some-at (next_front f s) IsLive g e (live-more f s l)
