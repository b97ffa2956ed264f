-- Grammars whose texts a machine reads, item by item.
--   IsMachineOf M s G         the grammar G has exactly the texts that lead from s to an end, and what leads from s begins one
--   reads-passes              no item of what is read passes a limit
--   leads-unique              the items lead to one state
--   leads-then, reads-then    a text and a text behind it
--   leads-part                what leads to a state leads to one at each part
--   reads-leads               what is read leads
--   place-stops               a text leaves the grammar where the machine stops
--   stops-outside             and then it is not of the grammar
use Rattle.std.proofs.Common.{◌≡◌, refl, sym, ◌∙◌, ap, subst, ℕ, zero, suc, ◌<◌, ◌≤◌, List, [], ◌∷◌, ◌++◌, length, length-append, take, append-nil, append_assoc, arith, inl, inr}
use Rattle.std.proofs.lemmas.Bool.{cases_lt}
use Rattle.irr_grammar.specs.ShapePlace.{BeginsIn, IsShapePlace}
use Rattle.irr_report.specs.Machine.{Machine, Leads, Reads, Stops}
use Rattle.irr_report.specs.Machine.Leads.{none as leads_none, more as leads_more}
use Rattle.irr_report.specs.Machine.Reads.{none as reads_none, more as reads_more}

-- an item leads from a state to one at most
abbrev pub Determined : {A : Type 0} → Machine A → Type 0
Determined {A} M = (a b c : M.State) (x : A) → M.Step a x b → M.Step a x c → b ≡ c

pub record IsMachineOf {A : Type 0} (M : Machine A) (s : M.State) (G : List A → Type 0) : Type 0 where
  pub one : Determined M
  pub ends : (xs : List A) → G xs → (t : M.State) × Leads M s xs t × M.IsEnd t
  pub begins : (xs : List A) (t : M.State) → Leads M s xs t → BeginsIn G xs

-- the front of a text, and what is longer
pub take-front : {A : Type 0} (front back : List A) → take (length front) (front ++ back) ≡ front
take-front [] back = refl
take-front (x ∷ front) back = ap (λ xs. x ∷ xs) (take-front front back)

take-longer : {A : Type 0} (front : List A) (x : A) (back : List A) (m : ℕ) → length front < m
    → (more : List A) × (take m (front ++ x ∷ back) ≡ front ++ x ∷ more)
take-longer [] x back zero h = absurd (omega arith)
take-longer [] x back (suc m) h = (take m back, refl)
take-longer (y ∷ front) x back zero h = absurd (omega arith)
take-longer (y ∷ front) x back (suc m) h = let r = take-longer front x back m (omega arith) in (r.0, ap (λ xs. y ∷ xs) r.1)

module _ {A : Type 0} (M : Machine A) where
  pub leads-then : {s t u : M.State} {xs ys : List A} → Leads M s xs t → Leads M t ys u → Leads M s (xs ++ ys) u
  leads-then leads_none h = h
  leads-then (leads_more a l) h = leads_more a (leads-then l h)

  pub reads-then : {s t u : M.State} {xs ys : List A} → Reads M s xs t → Reads M t ys u → Reads M s (xs ++ ys) u
  reads-then reads_none h = h
  reads-then (reads_more a n l) h = reads_more a n (reads-then l h)

  pub reads-leads : {s t : M.State} {xs : List A} → Reads M s xs t → Leads M s xs t
  reads-leads reads_none = leads_none
  reads-leads (reads_more a n l) = leads_more a (reads-leads l)

  pub leads-part : (xs : List A) {ys : List A} {s u : M.State} → Leads M s (xs ++ ys) u → (t : M.State) × Leads M s xs t × Leads M t ys u
  leads-part [] {s = s} h = (s, leads_none, h)
  leads-part (x ∷ xs) (leads_more a l) = let r = leads-part xs l in (r.0, leads_more a r.1, r.2)

  pub leads-unique : Determined M → {s t u : M.State} {xs : List A} → Leads M s xs t → Leads M s xs u → t ≡ u
  leads-unique one leads_none leads_none = refl
  leads-unique one (leads_more {s = a} {t = b} {x = x} {xs = xs} d l) (leads_more {t = c} {u = u} e k) =
      leads-unique one l (subst (λ v. Leads M v xs u) (one a c b x e d) k)

  -- no item of what is read passes a limit at the state that its front leads to
  pub reads-passes : Determined M → (front : List A) {x : A} (back : List A) {s t u : M.State} → Reads M s (front ++ x ∷ back) u → Leads M s front t → ¬ (M.Passes t x)
  reads-passes one [] back (reads_more d n r) leads_none p = n p
  reads-passes one (y ∷ front) {x = x} back {u = u} (reads_more {s = a} {t = b} d n r) (leads_more {t = c} e k) p =
      reads-passes one front back (subst (λ v. Reads M v (front ++ x ∷ back) u) (one a b c y d e) r) k p

  module _ {s : M.State} {G : List A → Type 0} (of : IsMachineOf M s G) where
    first_step : (a t : M.State) (x : A) (back more : List A) (u : M.State) → Leads M a (x ∷ more) u → a ≡ t → Stops M t (x ∷ back) → ⊥
    first_step a t x back more u (leads_more {t = b} d k) e stop = stop b (subst (λ v. M.Step v x b) e d)

    -- where it stops at a state, no text behind begins with the next item
    stopped : (t : M.State) (front : List A) (x : A) (back more : List A) → Leads M s front t → Stops M t (x ∷ back) → ¬ (G (front ++ x ∷ more))
    stopped t front x back more l stop g =
        let whole = of.ends (front ++ x ∷ more) g in
        let part = leads-part front {ys = x ∷ more} whole.1 in
        first_step part.0 t x back more whole.0 part.2 (leads-unique of.one part.1 l) stop

    pub stops-outside : (t : M.State) (front back : List A) → Leads M s front t → Stops M t back → ¬ (G (front ++ back))
    stops-outside t front [] l stop g =
        let whole = of.ends (front ++ []) g in
        let same : whole.0 ≡ t = leads-unique of.one (subst (λ ys. Leads M s ys whole.0) (append-nil front) whole.1) l in
        stop (subst M.IsEnd same whole.2)
    stops-outside t front (x ∷ back) l stop g = stopped t front x back back l stop g

    longest : (t : M.State) (front back : List A) → Leads M s front t → Stops M t back → (m : ℕ) → m ≤ length (front ++ back) → BeginsIn G (take m (front ++ back))
        → m ≤ length front
    longest t front [] l stop m le b = omega (arith, length-append front [])
    longest t front (x ∷ back) l stop m le b = elim (cases_lt (length front) m) [
      | inl lt ↦ (let r = take-longer front x back m lt in
          absurd (stopped t front x back (r.0 ++ b.0) l stop (subst G (ap (λ ys. ys ++ b.0) r.1 ∙ append_assoc front (x ∷ r.0) b.0) b.1)))
      | inr g ↦ g
    ]

    pub place-stops : (t : M.State) (front back : List A) → Leads M s front t → Stops M t back → IsShapePlace G (front ++ back) (length front)
    place-stops t front back l stop = record {
      within = omega (arith, length-append front back);
      begins = subst (BeginsIn G) (sym (take-front front back)) (of.begins front t l);
      longest = longest t front back l stop;
    }
