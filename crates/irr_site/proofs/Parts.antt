-- The small representations that stand in a family, one member of the list after another.
--   member, character_at         the member at a place of the loop, with its character
--   characters                   what `multiplicity` asks for
--   SoFar                        the parts of the members below k
--   none_so_far, one_more        no member, and one more
--   all_members                  all members
use Rattle.std.proofs.Common.{◌≡◌, refl, sym, ◌∙◌, ap, subst, ℕ, zero, suc, ◌+◌, ◌<◌, ◌≤◌, ◌⊎◌, inl, inr, List, [], ◌∷◌, ◌++◌, length, get_or, arith}
use Rattle.std.proofs.lemmas.Bool.{cases_lt}
use Rattle.irr_algebra.specs.Fin.{Fin, to_nat}
use Rattle.irr_algebra.specs.Action.{HasDimension}
use Rattle.irr_algebra.specs.Matrix.{trace}
use Rattle.irr_algebra.proofs.Folding.{dimension_unique}
use Rattle.irr_algebra.proofs.Indices.{from_nat, to_nat-from_nat, to_nat_inj, to_nat-lt}
use Rattle.irr_number.specs.Number.{Number}
use Rattle.irr_number.proofs.NumberField.{number_field}
use Rattle.irr_space.specs.CompleteList.{over}
use Rattle.irr_space.specs.PhaseTable.{PhaseTable}
use Rattle.irr_char.specs.Characters.{AreCharacters, IsRowOf}
use Rattle.irr_mult.specs.declared.star.SmallCharacter.{SmallCharacter}
use Rattle.irr_mult.specs.Listing.{IsListing}
use Rattle.irr_mult.specs.StarParts.{IsCharacterOf}
use Rattle.irr_mult.proofs.Listings.{listing-append, listing-none, listing-one, listing-same}
use Rattle.irr_site.specs.Families.{HasRows, IsFamilyRow}
use Rattle.irr_site.specs.SiteContent.{part_at}
use Rattle.irr_site.specs.declared.part.SmallPart.{SmallPart}

part-ext : (a b c d e f : ℕ) → a ≡ b → c ≡ d → e ≡ f
    → ◌≡◌ {A = SmallPart} (record { label = a; mult = c; dim = e }) (record { label = b; mult = d; dim = f })
part-ext a b c d e f p q r = cc

zero_or_positive : (x : ℕ) → (x ≡ 0) ⊎ (0 < x)
zero_or_positive zero = inl refl
zero_or_positive (suc x) = inr (omega arith)

module _ {S : Type 0} (order : S → ℕ) (value : (n : ℕ) → S → Number n) {M : ℕ} {q : ℕ} {T : PhaseTable q}
    {cs : List (SmallCharacter S)} (h : HasRows order value M T cs) where
  -- the member k of the list, where the program reads x
  module _ (k : ℕ) (l : k < length cs) (x : SmallCharacter S) (is : x ≡ get_or cs k x) where
    below : k < h.list.count
    below = subst (λ n. k < n) h.count l

    pub member : Fin h.list.count
    member = from_nat h.list.count k below

    pub member-number : to_nat member ≡ k
    unfolding member
    member-number = to_nat-from_nat h.list.count k below

    pub character_at : IsCharacterOf order value T M h.divides (h.list.member member) x
    character_at = subst (IsCharacterOf order value T M h.divides (h.list.member member))
        (ap (λ n. get_or cs n x) member-number ∙ sym is) (h.character member x)

    pub label_below : k < 48
    label_below = let b = below in let f = h.few in omega (arith, b, f)

    pub small_size : x.dim ≤ 48
    small_size = subst (λ n. n ≤ 48) (sym character_at.size) (h.small member)

    module _ {traces : List S} (r : IsFamilyRow order value T M h.divides traces) where
      abbrev pub characters : (row : List S) → row ≡ x.row.items → AreCharacters order value T row traces
      characters row same = record {
        n = M;
        divides = h.divides;
        left_size = h.list.size member;
        right_size = r.count;
        left = over T M h.divides (h.list.member member);
        right = r.family;
        left_few = h.small member;
        right_few = r.few;
        left_row = subst (IsRowOf order value M (λ i. trace ((over T M h.divides (h.list.member member)).at i))) (sym same)
            character_at.row;
        right_row = r.row;
      }

module _ {S : Type 0} (order : S → ℕ) (value : (n : ℕ) → S → Number n) {M : ℕ} {e : ℕ} {T : PhaseTable e}
    {cs : List (SmallCharacter S)} (h : HasRows order value M T cs) {traces : List S}
    (r : IsFamilyRow order value T M h.divides traces) (mult : Fin h.list.count → ℕ)
    (dimension : (m : Fin h.list.count) → HasDimension (over T M h.divides (h.list.member m)).at r.family.at (mult m))
  where
    abbrev Stands : ℕ → Fin h.list.count → Type 0
    Stands k m = (to_nat m < k) × (0 < mult m)

    abbrev Before : Fin h.list.count → Fin h.list.count → Type 0
    Before m n = to_nat m < to_nat n

    -- the parts of the first k members
    abbrev pub SoFar : ℕ → List SmallPart → Type 0
    SoFar k parts = IsListing (part_at T h.list mult) (λ m. (to_nat m < k) × (0 < mult m)) (λ m n. to_nat m < to_nat n) parts

    pub none_so_far : SoFar 0 []
    none_so_far = listing-none (part_at T h.list mult) Before (Stands 0)
        (λ m s. let l : to_nat m < 0 = s.0 in omega (arith, l))

    module _ (k : ℕ) (l : k < length cs) (x : SmallCharacter S)
        (is : x ≡ get_or cs k x) (q : ℕ)
        (has : HasDimension (over T M h.divides (h.list.member (member order value h k l x is))).at
        r.family.at q)
        (p : SmallPart) (label : p.label ≡ k + 1) (same_mult : p.mult ≡ q) (size : p.dim ≡ x.dim) where
      abbrev own : Fin h.list.count
      own = member order value h k l x is

      number : to_nat (member order value h k l x is) ≡ k
      number = member-number order value h k l x is

      mult_at : mult (member order value h k l x is) ≡ q
      mult_at = dimension_unique (number_field M h.positive) (over T M h.divides
          (h.list.member own)).at r.family.at (dimension own) has

      same_member : (m : Fin h.list.count) → to_nat m ≡ k → m ≡ own
      same_member m e = to_nat_inj m own (e ∙ sym number)

      below_or_own : (m : Fin h.list.count) → to_nat m < k + 1 → (to_nat m < k) ⊎ (to_nat m ≡ k)
      below_or_own m b = elim (cases_lt (to_nat m) k) [ inl a ↦ inl a | inr f ↦ inr (omega (arith, b, f)) ]

      made : p ≡ part_at T h.list mult own
      made = part-ext p.label (suc (to_nat own)) p.mult (mult own) p.dim (h.list.size own)
          (let e = number in omega (arith, label, e)) (same_mult ∙ sym mult_at)
          (size ∙ (character_at order value h k l x is).size)

      absent : q ≡ 0 → (parts : List SmallPart) → SoFar k parts → SoFar (k + 1) parts
      absent z parts a = listing-same (part_at T h.list mult) Before (Stands k) (Stands (k + 1)) parts a
          (λ m (b, o). (let w : to_nat m < k = b in omega (arith, w), o))
          (λ m (b, o). (
            elim (below_or_own m b) [
              | inl w ↦ w
              | inr w ↦ absurd (let v : 0 < q = subst (λ n. 0 < n) (ap mult (same_member m w) ∙ mult_at) o in omega
                  (arith, v, z))
            ],
            o,
          ))

      present : 0 < q → (parts : List SmallPart) → SoFar k parts → SoFar (k + 1) (parts ++ p ∷ [])
      present some parts a = listing-append (part_at T h.list mult) Before (Stands k) Own (Stands (k + 1)) parts (p ∷ []) a
          (listing-one (part_at T h.list mult) Before Own own p (number, subst (λ n. 0 < n) (sym mult_at) some)
          (λ m (w, o). sym (same_member m w)) made)
          (λ m (b, o). (let w : to_nat m < k = b in omega (arith, w), o))
          (λ m (b, o). (let w : to_nat m ≡ k = b in omega (arith, w), o))
          (λ m (b, o). elim (below_or_own m b) [ inl w ↦ inl (w, o) | inr w ↦ inr (w, o) ])
          (λ m n (b, o) (w, v). let u : to_nat m < k = b in let y : to_nat n ≡ k = w in omega (arith, u, y))
        where
          Own : Fin h.list.count → Type 0
          Own m = (to_nat m ≡ k) × (0 < mult m)

      pub one_more : (now new : List SmallPart) → (q ≡ 0 → new ≡ now) → (0 < q → new ≡ now ++ p ∷ []) → SoFar k now
          → SoFar (k + 1) new
      one_more now new none some a = elim (zero_or_positive q) [
        | inl z ↦ subst (SoFar (k + 1)) (sym (none z)) (absent z now a)
        | inr o ↦ subst (SoFar (k + 1)) (sym (some o)) (present o now a)
      ]

    pub all_members : (k : ℕ) → k ≡ length cs → (parts : List SmallPart) → SoFar k parts
        → IsListing (part_at T h.list mult) (λ m. 0 < mult m) Before parts
    all_members k e parts a = listing-same (part_at T h.list mult) Before (Stands k) (λ m. 0 < mult m) parts a (λ m (b, o). o)
        (λ m o. (subst (λ n. to_nat m < n) (sym (e ∙ h.count)) (to_nat-lt m), o))
