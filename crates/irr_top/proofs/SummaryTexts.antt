-- The text of a summary, from a list of small representations on the table of a little group.
--   head-parts           the parts of the lines before those of the representations
--   summary-parts        the parts of the text
--   head-joined, summary-joined    texts that are made step by step
--   summary_of_list      the text of the dimensions of families is that of the report of their list
--   summary_reply_of     the text is the reply
--   no_summary_of        the order is too large
use Rattle.std.proofs.Common.{◌≡◌, sym, ◌∙◌, ap, ap₂, subst, refl, ℕ, ◌<◌, ◌≤◌, List, [], ◌∷◌, ◌++◌, append_assoc, length, map, get_or}
use Rattle.std.specs.Prelude.{codes}
use Rattle.std.specs.Fmt.{decimal}
use Rattle.std.proofs.lemmas.List.{get_or-map, length-map}
use Rattle.irr_algebra.specs.Fin.{Fin, to_nat}
use Rattle.irr_space.specs.Operation.{Operation, WaveVector}
use Rattle.irr_space.specs.Reciprocal.{IsOrder, IsReduced}
use Rattle.irr_space.specs.PhaseTable.{PhaseTable}
use Rattle.irr_text.specs.ReportText.{pieces, line, next_word, list_report}
use Rattle.irr_seitz.specs.declared.op.Op.{Op}
use Rattle.irr_close.specs.StandsFor.{stands_for}
use Rattle.irr_close.specs.declared.group.Group.{Group}
use Rattle.irr_cyc.specs.declared.scalars.Scalar.{Ghosts}
use Rattle.irr_rep.specs.declared.family.Family.{Family}
use Rattle.irr_climb.specs.Lists.{IsSmallList}
use Rattle.irr_little.specs.Table.{IsLittleTable}
use Rattle.irr_report.proofs.Pieces.{pieces-numbered}
use Rattle.irr_top.specs.Answer.{AreWithin, IsTooLargeAt, order_limit}
use Rattle.irr_top.specs.GenCommand.{IsGenReply, summary_text}
use Rattle.irr_top.specs.GroupOf.{IsGroupOf, group_of}
use Rattle.irr_top.specs.Question.Question.{summary}
use Rattle.irr_top.specs.SummaryText.{IsSummaryOn, dim_word, dims_text, head_lines, summary_lines}
use Rattle.irr_top.specs.declared.status.Status.TheVariants.{Done}
use Rattle.irr_top.proofs.Members.{some_item}
use Rattle.irr_top.proofs.Orders.{first_above, one_within}
use Rattle.irr_top.proofs.SmallTexts.{order_of_table, order_there, report_of, ops}

pub head-parts : (n m w o p : List ℕ)
    → (codes "gen 1\nnumber " ++ (n ++ (codes "\nlines " ++ (m ++ codes "\n"))))
    ++ (codes "wave " ++ (w ++ (codes "\norder " ++ (o ++ (codes "\nops " ++ (p ++ codes "\n"))))))
    ≡ line (codes "gen 1") ++ line (codes "number" ++ next_word n) ++ line (codes "lines" ++ next_word m)
    ++ line (codes "wave" ++ next_word w) ++ line (codes "order" ++ next_word o) ++ line (codes "ops" ++ next_word p)
head-parts n m w o p = regrouped (codes "gen 1\n") (codes "number ") (codes "lines ") (codes "wave ") (codes "order ") (codes "ops ")
    (10 ∷ []) n m w o p
  where
    regrouped : (g a b c d e l n m w o p : List ℕ)
        → (g ++ (a ++ (n ++ (l ++ (b ++ (m ++ l)))))) ++ (c ++ (w ++ (l ++ (d ++ (o ++ (l ++ (e ++ (p ++ l))))))))
        ≡ ((((g ++ ((a ++ n) ++ l)) ++ ((b ++ m) ++ l)) ++ ((c ++ w) ++ l)) ++ ((d ++ o) ++ l)) ++ ((e ++ p) ++ l)
    regrouped g a b c d e l n m w o p = simp append_assoc

pub summary-parts : (h c d : List ℕ) → ((h ++ (codes "reps " ++ (c ++ codes "\ndims"))) ++ d) ++ codes "\nend\n"
    ≡ h ++ line (codes "reps" ++ next_word c) ++ line (codes "dims" ++ d) ++ line (codes "end")
summary-parts h c d = regrouped h (codes "reps ") c (10 ∷ []) (codes "dims") d (codes "end")
  where
    regrouped : (h r c l s d e : List ℕ) → ((h ++ (r ++ (c ++ (l ++ s)))) ++ d) ++ (l ++ (e ++ l))
        ≡ ((h ++ ((r ++ c) ++ l)) ++ ((s ++ d) ++ l)) ++ (e ++ l)
    regrouped h r c l s d e = simp append_assoc

pub head-joined : (n m w o p front text : List ℕ)
    → front ≡ codes "gen 1\nnumber " ++ (n ++ (codes "\nlines " ++ (m ++ codes "\n")))
    → text ≡ front ++ (codes "wave " ++ (w ++ (codes "\norder " ++ (o ++ (codes "\nops " ++ (p ++ codes "\n"))))))
    → text ≡ line (codes "gen 1") ++ line (codes "number" ++ next_word n) ++ line (codes "lines" ++ next_word m)
    ++ line (codes "wave" ++ next_word w) ++ line (codes "order" ++ next_word o) ++ line (codes "ops" ++ next_word p)
head-joined n m w o p front text a b = b
    ∙ ap (λ t. t ++ (codes "wave " ++ (w ++ (codes "\norder " ++ (o ++ (codes "\nops " ++ (p ++ codes "\n"))))))) a
    ∙ head-parts n m w o p

pub summary-joined : (h c d front counted listed text : List ℕ) → front ≡ h
    → counted ≡ front ++ (codes "reps " ++ (c ++ codes "\ndims")) → listed ≡ counted ++ d → text ≡ listed ++ codes "\nend\n"
    → text ≡ h ++ line (codes "reps" ++ next_word c) ++ line (codes "dims" ++ d) ++ line (codes "end")
summary-joined h c d front counted listed text a b e f = f
    ∙ ap (λ t. t ++ codes "\nend\n") (e ∙ ap (λ t. t ++ d) (b ∙ ap (λ t. t ++ (codes "reps " ++ (c ++ codes "\ndims"))) a))
    ∙ summary-parts h c d

module _ (number lines : ℕ) (wave : WaveVector) {S : Type 0} {G : Ghosts S} {h : ℕ} (T : PhaseTable h) (fs : List (Family S G))
    (s : IsSmallList T fs) where
  abbrev dims : List ℕ
  dims = map (λ (f : Family S G). f.dim) fs

  count : length dims ≡ s.list.count
  count = length-map fs (λ (f : Family S G). f.dim) ∙ s.read.count

  size_at : (m : Fin s.list.count) (x : ℕ) → to_nat m < length dims → x ≡ get_or dims (to_nat m) x → s.list.size m ≡ x
  size_at m x l is = sym (is ∙ get_or-map (λ (f : Family S G). f.dim) fs (to_nat m) (other m x l) x (inside m x l)
      ∙ (s.read.read m (other m x l)).size)
    where
      inside : (m : Fin s.list.count) (x : ℕ) → to_nat m < length dims → to_nat m < length fs
      inside m x l = subst (λ n. to_nat m < n) (length-map fs (λ (f : Family S G). f.dim)) l

      other : (m : Fin s.list.count) (x : ℕ) → to_nat m < length dims → Family S G
      other m x l = some_item fs (to_nat m) (inside m x l)

  dims-pieces : pieces s.list.count (λ m. next_word (decimal (s.list.size m))) ≡ dims_text dims
  dims-pieces = pieces-numbered dim_word dims s.list.count count (λ m. next_word (decimal (s.list.size m)))
      (λ m x l is. ap (λ d. next_word (decimal d)) (size_at m x l is))

  pub summary_of_list : (operations : Fin h → Operation) → summary_lines number lines wave T.order h (map (λ (f : Family S G). f.dim) fs)
      ≡ summary_text number lines (list_report wave operations T s.list)
  summary_of_list operations = ap₂ (λ n t. head_lines number lines wave T.order h ++ line (codes "reps" ++ next_word (decimal n))
      ++ line (codes "dims" ++ t) ++ line (codes "end")) count (sym dims-pieces)

module _ (number lines : ℕ) (group : Group) (gens : List Op) (is : IsGroupOf group gens) (k w : WaveVector)
    (reduced : IsReduced (group_of gens) k w) where
  pub summary_reply_of : (xs : List ℕ) {h : ℕ} (T : PhaseTable h) (table : IsLittleTable group w xs T) (within : T.order ≤ order_limit)
      (text : List ℕ) → IsSummaryOn number lines w T text
      → AreWithin (summary number lines k) (group_of gens) × IsGenReply (group_of gens) number lines k Done text
  summary_reply_of xs T table within text s = (
    one_within (group_of gens) k T.order (order_of_table group gens is k w reduced xs T table within) within,
    (
      refl,
      record {
        content = list_report w (ops group gens is k w reduced xs T table within) T s.representations;
        is_report = report_of group gens is k w reduced xs T table within s.representations s.complete s.in_order;
        is_text = s.is_text (ops group gens is k w reduced xs T table within);
      },
    ),
  )

  pub no_summary_of : (n : ℕ) → IsOrder (stands_for group) w n → order_limit < n → IsTooLargeAt (summary number lines k) (group_of gens) n
  no_summary_of n o l = first_above (summary number lines k) (group_of gens) n (refl, order_there group gens is k w reduced n o) l
