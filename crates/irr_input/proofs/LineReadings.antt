-- Reading the lines of an input one after another.
--   none_read, line_read         no line of generators is read, and one more
--   none_readable, readable_more, none_few, few_more     what they add
--   generator_fault              the next line is faulty
--   SkippedTo n text m rest      the lines up to the m-th are skipped
--   none_skipped, one_skipped    no line is skipped, and one more
--   needed_found, needed_other, needed_end     the next line is that which is needed, or another, or there is none
--   own_fault                    a line at its place is faulty
use Rattle.std.proofs.Common.{◌≡◌, refl, sym, ◌∙◌, ap, subst, ℕ, suc, ◌+◌, ◌≤◌, List, [], ◌∷◌, ◌++◌, length, length-append, arith}
use Rattle.std.specs.List.{All}
use Rattle.std.proofs.lemmas.List.Elements.{All-append, All-cons}
use Rattle.std.proofs.lemmas.List.{nil_from_length}
use Rattle.irr_lines.specs.Lines.{IsFirstLine}
use Rattle.irr_seitz.specs.OperationMeaning.{operation}
use Rattle.irr_triplet.specs.Readable.{IsReadable}
use Rattle.irr_input.specs.declared.keyword.Keyword.{Keyword}
use Rattle.irr_input.specs.declared.keyword.Keyword.TheVariants.{Subgroup, Basis, Origin, Report as ReportWord}
use Rattle.irr_input.specs.declared.input.GenLine.{GenLine}
use Rattle.irr_input.specs.declared.input.Reason.{Reason}
use Rattle.irr_input.specs.declared.input.Reason.TheVariants.{Shape, Missing}
use Rattle.irr_input.specs.declared.input.InputError.{InputError}
use Rattle.irr_input.specs.declared.input.InputError.TheVariants.{Bad, Memory, ReportRange}
use Rattle.irr_input.specs.SectionLines.{IsSkipped, Begins, LineSort, IsOfSort, IsOwnFault}
use Rattle.irr_input.specs.SectionLines.LineSort.{skipped as skipped_line, triplet, section}
use Rattle.irr_input.specs.Stages.{Placed, placed_at, Said, MayStand, Reaches}
use Rattle.irr_input.specs.Stages.Said.{group, begun, based, complete}
use Rattle.irr_input.specs.Stages.Adds.{nothing}
use Rattle.irr_input.specs.Stages.Reaches.{more}
use Rattle.irr_input.specs.Stages.IsWrong.{misplaced, faulty}
use Rattle.irr_input.specs.InputLines.{placed, MayEnd, IsFaultyLine}
use Rattle.irr_input.specs.InputLines.IsFaultAt.{wrong, missing}
use Rattle.irr_input.specs.LineReading.{IsLineRead, IsLineFault, AreRead, IsGeneratorFault, Needs, IsNeeded, IsNeedFault}
use Rattle.irr_input.specs.LineReading.IsLineRead.{skipped, generator}

-- generators

pub none_read : (gens : List GenLine) (n : ℕ) (text : List ℕ) → gens ≡ [] → AreRead gens n text n text
none_read gens n text e = record { reached = λ bytes s takes r. subst (λ (gs : List GenLine). Reaches bytes (s (placed gs)) n text) (sym e) r }

placed_more : (gens : List GenLine) (g : GenLine) (n : ℕ) → g.line ≡ n → placed (gens ++ g ∷ []) ≡ placed gens ++ placed_at n (operation g.op) ∷ []
placed_more [] g n e = ap (λ (k : ℕ). placed_at k (operation g.op) ∷ []) e
placed_more (h ∷ gens) g n e = ap (λ (ps : List Placed). placed_at h.line (operation h.op) ∷ ps) (placed_more gens g n e)

next_number : (m k : ℕ) → k ≡ m + 1 → suc m ≡ k
next_number m k e = omega (arith, e)

pub line_read : (gens new : List GenLine) (n m k : ℕ) (text rest line behind : List ℕ) → AreRead gens n text m rest → IsFirstLine rest line behind
    → ((j : Keyword) → ¬ (Begins j line)) → k ≡ m + 1 → IsLineRead k line gens new → AreRead new n text k behind
line_read gens new n m k text rest line behind a f none e (skipped is same) = record {
  reached = λ bytes s takes r.
      subst (λ (gs : List GenLine). Reaches bytes (s (placed gs)) k behind) (sym same)
      (subst (λ i. Reaches bytes (s (placed gens)) i behind) (next_number m k e) (more (a.reached bytes s takes r) f (nothing is)));
}
line_read gens new n m k text rest line behind a f none e (generator g is at writes readable same) = record {
  reached = λ bytes s takes r.
      let number : suc m ≡ k = next_number m k e in
      let one : Reaches bytes (s (placed gens ++ placed_at (suc m) (operation g.op) ∷ [])) (suc m) behind =
      more (a.reached bytes s takes r) f (takes.adds (suc m) line (placed gens) (operation g.op) (is, none) writes) in
      subst (λ (gs : List GenLine). Reaches bytes (s (placed gs)) k behind) (sym same)
      (subst (λ i. Reaches bytes (s (placed (gens ++ g ∷ []))) i behind) number
      (subst (λ (ps : List Placed). Reaches bytes (s ps) (suc m) behind) (sym (placed_more gens g (suc m) (at ∙ sym number))) one));
}

abbrev pub AreReadable : List GenLine → Type 0
AreReadable gens = All (λ g. IsReadable (operation g.op)) gens

pub readable_more : (gens new : List GenLine) (k : ℕ) (line : List ℕ) → AreReadable gens → IsLineRead k line gens new → AreReadable new
readable_more gens new k line a (skipped is same) = subst AreReadable (sym same) a
readable_more gens new k line a (generator g is at writes readable same) = subst AreReadable (sym same)
    (All-append (λ g. IsReadable (operation g.op)) gens (g ∷ []) a (All-cons (λ g. IsReadable (operation g.op)) g [] readable (λ i d lt. absurd (omega (arith, lt)))))

pub none_readable : (gens : List GenLine) → gens ≡ [] → AreReadable gens
none_readable gens e = subst AreReadable (sym e) (λ i d lt. absurd (omega (arith, lt)))

pub none_few : (gens : List GenLine) (n : ℕ) → gens ≡ [] → length gens ≤ n
none_few gens n e = let l : length gens ≡ 0 = ap length e in omega (arith, l)

pub few_more : (gens new : List GenLine) (m k : ℕ) (line : List ℕ) → length gens ≤ m → k ≡ m + 1 → IsLineRead k line gens new → length new ≤ k
few_more gens new m k line few e (skipped is same) = let l : length new ≡ length gens = ap length same in omega (arith, few, e, l)
few_more gens new m k line few e (generator g is at writes readable same) =
    let l : length new ≡ length gens + 1 = ap length same ∙ length-append gens (g ∷ []) in omega (arith, few, e, l)

-- a line at its place

pub own_fault : (bytes : List ℕ) (s : Said) (n m : ℕ) (rest line behind : List ℕ) (a : LineSort) (reason : Reason) → Reaches bytes s n rest → IsFirstLine rest line behind
    → IsOfSort line a → MayStand s a → IsOwnFault line a reason → m ≡ suc n → IsFaultyLine bytes m reason
own_fault bytes s n m rest line behind a reason r f is may own e =
    record { comes = record { said = s; number = n; rest = rest; reached = r; at_end = wrong line behind f (faulty a is may own) e } }

pub generator_fault : (gens : List GenLine) (n m k : ℕ) (text rest line behind : List ℕ) (e : InputError) → AreRead gens n text m rest → IsFirstLine rest line behind
    → ((j : Keyword) → ¬ (Begins j line)) → k ≡ m + 1 → IsLineFault k line e → IsGeneratorFault n text e
generator_fault gens n m k text rest line behind Memory a f none c h = record { fault = λ bytes s takes r. tt }
generator_fault gens n m k text rest line behind (ReportRange j) a f none c h = absurd h
generator_fault gens n m k text rest line behind (Bad j reason) a f none c h = record {
  fault = λ bytes s takes r. own_fault bytes (s (placed gens)) m j rest line behind triplet reason (a.reached bytes s takes r) f (h.1, none)
      (takes.may_stand (placed gens)) h.2 (h.0 ∙ sym (next_number m k c));
}

-- a line that is needed

pub record SkippedTo (n : ℕ) (text : List ℕ) (m : ℕ) (rest : List ℕ) : Type 0 where
  pub reached : (bytes : List ℕ) (s : Said) → Reaches bytes s n text → Reaches bytes s m rest

pub none_skipped : (n : ℕ) (text : List ℕ) → SkippedTo n text n text
none_skipped n text = record { reached = λ bytes s r. r }

pub one_skipped : (n m k : ℕ) (text rest line behind : List ℕ) → SkippedTo n text m rest → IsFirstLine rest line behind → IsSkipped line → k ≡ m + 1 → SkippedTo n text k behind
one_skipped n m k text rest line behind a f is e = record {
  reached = λ bytes s r. subst (λ i. Reaches bytes s i behind) (next_number m k e) (more (a.reached bytes s r) f (nothing is));
}

pub needed_found : (j : Keyword) (n m k : ℕ) (text rest line behind : List ℕ) → SkippedTo n text m rest → IsFirstLine rest line behind → Begins j line → k ≡ m + 1
    → IsNeeded j n text line k behind
needed_found j n m k text rest line behind a f b e = record { before = m; rest = rest; reached = a.reached; is_first = f; begins = b; number = sym (next_number m k e) }

-- what needs one line takes no other
other_sorts : (s : Said) (j : Keyword) (line : List ℕ) → Needs s j → ¬ (IsSkipped line) → ¬ (Begins j line) → (a : LineSort) → IsOfSort line a → ¬ (MayStand s a)
other_sorts (group gens) j line needs unskipped other a is may = needs
other_sorts (begun gens) j line needs unskipped other skipped_line is may = unskipped is
other_sorts (begun gens) j line needs unskipped other triplet is may = may
other_sorts (begun gens) j line needs unskipped other (section Subgroup) is may = may
other_sorts (begun gens) j line needs unskipped other (section Basis) is may = other (subst (λ k. Begins k line) (sym needs) is)
other_sorts (begun gens) j line needs unskipped other (section Origin) is may = may
other_sorts (begun gens) j line needs unskipped other (section ReportWord) is may = may
other_sorts (based gens n P) j line needs unskipped other skipped_line is may = unskipped is
other_sorts (based gens n P) j line needs unskipped other triplet is may = may
other_sorts (based gens n P) j line needs unskipped other (section Subgroup) is may = may
other_sorts (based gens n P) j line needs unskipped other (section Basis) is may = may
other_sorts (based gens n P) j line needs unskipped other (section Origin) is may = other (subst (λ k. Begins k line) (sym needs) is)
other_sorts (based gens n P) j line needs unskipped other (section ReportWord) is may = may
other_sorts (complete gens sub) j line needs unskipped other a is may = needs

no_end : (s : Said) (j : Keyword) → Needs s j → ¬ (MayEnd s)
no_end (group gens) j needs may = needs
no_end (begun gens) j needs may = may
no_end (based gens n P) j needs may = may
no_end (complete gens sub) j needs may = needs

pub needed_other : (j : Keyword) (n m k : ℕ) (text rest line behind : List ℕ) → SkippedTo n text m rest → IsFirstLine rest line behind → ¬ (IsSkipped line) → ¬ (Begins j line)
    → k ≡ m + 1 → IsNeedFault j n text (Bad k (Shape 0))
needed_other j n m k text rest line behind a f unskipped other e = record {
  fault = λ bytes s needs r. record {
    comes = record {
      said = s;
      number = m;
      rest = rest;
      reached = a.reached bytes s r;
      at_end = wrong line behind f (misplaced (other_sorts s j line needs unskipped other) refl) (sym (next_number m k e));
    };
  };
}

pub needed_end : (j : Keyword) (n m k : ℕ) (text rest : List ℕ) → SkippedTo n text m rest → length rest ≡ 0 → k ≡ m + 1 → IsNeedFault j n text (Bad k Missing)
needed_end j n m k text rest a none e = record {
  fault = λ bytes s needs r. record {
    comes = record {
      said = s;
      number = m;
      rest = rest;
      reached = a.reached bytes s r;
      at_end = missing (nil_from_length rest none) (no_end s j needs) (sym (next_number m k e)) refl;
    };
  };
}
