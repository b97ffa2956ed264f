-- The text of a star, from its lines and from its arms and table.
--   other_operation, other_arm     an operation and an arm that stand past the ends of lists
--   some_arm, arms_in_list    the arms are some, and their operations are in the list
--   star_at                   what the arms and the table say is the star of the wave vector
--   star-parts                the lines are the text
--   star_reply_of, no_star_of     the reply for the group of generators, or the order that is too large
--   arm_inside, listed_item   the operation of an arm
--   head-parts, row-parts, factor-word     the parts of lines
use Rattle.std.proofs.Common.{◌≡◌, sym, ◌∙◌, ap, ap₂, subst, refl, ℕ, suc, ◌+◌, ◌<◌, ◌≤◌, List, ◌∷◌, [], ◌++◌, append_assoc, length, get_or, slice_index, arith}
use Rattle.std.specs.Prelude.{codes}
use Rattle.std.specs.Fmt.{decimal}
use Rattle.std.proofs.lemmas.List.{get_or_default}
use mathlib.Core.Path.{fun_ext}
use Rattle.irr_algebra.specs.Fin.{Fin, to_nat}
use Rattle.irr_algebra.proofs.Indices.{from_nat, to_nat-from_nat, to_nat-lt}
use Rattle.irr_space.specs.Operation.{WaveVector}
use Rattle.irr_space.specs.Reciprocal.{IsOrder, IsReduced}
use Rattle.irr_space.specs.PhaseTable.{PhaseTable}
use Rattle.irr_text.specs.TripletText.{triplet_text}
use Rattle.irr_text.specs.ReportText.{pieces, line, next_word}
use Rattle.irr_text.specs.StarText.{star_text, star_content, arm_line, little_line, factor_word, factor_line, IsStarOf}
use Rattle.irr_rat.specs.declared.vec3.Vec3.{Vec3}
use Rattle.irr_seitz.specs.OperationMeaning.{operation}
use Rattle.irr_seitz.specs.PhaseMeaning.{sign_of}
use Rattle.irr_seitz.specs.declared.op.Op.{Op}
use Rattle.irr_kvec.specs.WaveMeaning.{wave_vector}
use Rattle.irr_close.specs.Canonical.{numbered as in_order}
use Rattle.irr_close.specs.StandsFor.{stands_for}
use Rattle.irr_close.specs.declared.group.Group.{Group}
use Rattle.irr_close.proofs.Bareness.{first_of}
use Rattle.irr_close.proofs.SpaceGroups.{space_group}
use Rattle.irr_little.specs.Arms.{AreArms}
use Rattle.irr_little.specs.Table.{IsLittleTable, listed_operations}
use Rattle.irr_little.specs.declared.arms.Arm.{Arm}
use Rattle.irr_little.proofs.Spaces.{form_of, has_canonical, numbering_of}
use Rattle.irr_report.specs.Printed.{numbered, operation_text}
use Rattle.irr_report.proofs.LineTexts.{head_regroup}
use Rattle.irr_report.proofs.Pieces.{pieces-numbered}
use Rattle.irr_check.proofs.Along.{order_along}
use Rattle.irr_top.specs.StarCommand.{IsStarReply, IsStarText}
use Rattle.irr_top.specs.Question.Question.{star}
use Rattle.irr_top.specs.StarText.{AreInList, head_text, arm_words, arm_text, factor, factors, listed_content}
use Rattle.irr_top.specs.Answer.{AreWithin, IsTooLargeAt, order_limit}
use Rattle.irr_top.specs.declared.status.Status.TheVariants.{Done}
use Rattle.irr_top.specs.GroupOf.{IsGroupOf, group_of}
use Rattle.irr_top.proofs.Along.{star_along}
use Rattle.irr_top.proofs.Orders.{first_above, one_within}
use Rattle.irr_top.proofs.FirstArms.{first_arm, first_wave}

-- an operation and an arm past the ends of the lists
pub other_operation : Group → Op
other_operation group = first_of group.ops.items (form_of group).nonempty

pub other_arm : Group → Arm
other_arm group = let v : Vec3 = first_of group.centrings.items (form_of group).has_centring in record {
  wave = record { num = v.num; den = v.den; lowest = v.lowest };
  op = 0;
}

module _ (group : Group) (k : WaveVector) (arms : List Arm) (are : AreArms group k arms) where
  pub some_arm : 0 < length arms
  some_arm = first_arm (stands_for group) (space_group group).is_group (has_canonical group) k (in_order group.ops.items (other_operation group))
      (numbering_of group (other_operation group)) (λ i. wave_vector (get_or arms (to_nat i) (other_arm group)).wave) are.number
      (are.star (other_operation group) (other_arm group))

  pub arms_in_list : AreInList group.ops.items arms
  arms_in_list i a l = subst (λ n. n < length group.ops.items)
      (are.number_is at a ∙ ap (λ n. (get_or arms n a).op) (to_nat-from_nat (length arms) i l)) (to_nat-lt (are.number at))
    where
      at : Fin (length arms)
      at = from_nat (length arms) i l

  module _ {h : ℕ} (xs : List ℕ) (T : PhaseTable h) (table : IsLittleTable group k xs T) (d : Op) (a : Arm) where
    abbrev arm : Fin (length arms) → WaveVector
    arm i = wave_vector (get_or arms (to_nat i) a).wave

    start : Fin (length arms)
    start = from_nat (length arms) 0 some_arm

    at_start : to_nat start ≡ 0
    unfolding start
    at_start = to_nat-from_nat (length arms) 0 some_arm

    pub star_at : IsStarOf (sign_of group.phase) (stands_for group) k (listed_content group arms xs T d a)
    star_at = record {
      wave = wave_vector (get_or arms 0 a).wave;
      reduced = subst (λ n. IsReduced (stands_for group) k (wave_vector (get_or arms n a).wave)) at_start
          (first_wave (stands_for group) (space_group group).is_group (has_canonical group) k (in_order group.ops.items d)
          (numbering_of group d) arm are.number (are.star d a) start at_start);
      count = length group.ops.items;
      canonical = in_order group.ops.items d;
      canonical_numbering = numbering_of group d;
      arms = length arms;
      arm = arm;
      number = are.number;
      are_arms = are.star d a;
      places = h;
      operation = listed_operations group h xs d;
      numbering = table.numbering d;
      table = T;
      is_table = table.table d;
      content = ap (λ c. star_content (wave_vector (get_or arms 0 a).wave) {a = length arms} arm c (listed_operations group h xs d) T)
          (fun_ext (λ i. ap (λ n. operation (get_or group.ops.items n d)) (sym (are.number_is i a))));
    }

-- the lines of arms and of operations
module _ (group : Group) (arms : List Arm) (d : Op) (a : Arm) where
  arm-pieces : pieces (length arms) (λ i. arm_line i (wave_vector (get_or arms (to_nat i) a).wave)
      (operation (get_or group.ops.items (get_or arms (to_nat i) a).op d))) ≡ numbered (arm_text group.ops.items d) 1 arms
  unfolding arm_line
  arm-pieces = pieces-numbered (arm_text group.ops.items d) arms (length arms) refl
      (λ i. arm_line i (wave_vector (get_or arms (to_nat i) a).wave) (operation (get_or group.ops.items (get_or arms (to_nat i) a).op d)))
      (λ i x l is. ap (λ (y : Arm). arm_words (suc (to_nat i)) (wave_vector y.wave) (operation (get_or group.ops.items y.op d)))
      (get_or_default arms (to_nat i) a x l ∙ sym is))

  module _ {h : ℕ} (xs : List ℕ) (ops : List Op) (count : length ops ≡ h)
      (same : (p : ℕ) (e : Op) → p < h → get_or ops p e ≡ get_or group.ops.items (slice_index xs p) e) where
    operation-pieces : pieces h (λ i. little_line i (listed_operations group h xs d i)) ≡ numbered operation_text 1 ops
    unfolding little_line
    operation-pieces = pieces-numbered operation_text ops h count (λ i. little_line i (listed_operations group h xs d i))
        (λ i x l is. ap (λ (g : Op). line (codes "op" ++ next_word (decimal (suc (to_nat i))) ++ next_word (triplet_text (operation g))))
        (sym (same (to_nat i) d (to_nat-lt i)) ∙ get_or_default ops (to_nat i) d x l ∙ sym is))

    module _ (T : PhaseTable h) (head listed count_line little rows text : List ℕ) where
      pub star-parts : head ≡ head_text (wave_vector (get_or arms 0 a).wave) T.order (length arms)
          → listed ≡ head ++ numbered (arm_text group.ops.items d) 1 arms
          → count_line ≡ listed ++ (codes "ops " ++ (decimal h ++ codes "\n"))
          → little ≡ count_line ++ numbered operation_text 1 ops
          → rows ≡ little ++ pieces h (factors T) → text ≡ rows ++ codes "end\n"
          → text ≡ star_text (listed_content group arms xs T d a)
      unfolding star_text
      star-parts is_head is_listed is_count is_little is_rows is_text = is_text ∙ ap (λ t. t ++ codes "end\n") (is_rows
          ∙ ap (λ t. t ++ pieces h (factors T)) (is_little ∙ ap (λ t. t ++ numbered operation_text 1 ops) (is_count
          ∙ ap (λ t. t ++ (codes "ops " ++ (decimal h ++ codes "\n"))) (is_listed
          ∙ ap (λ t. t ++ numbered (arm_text group.ops.items d) 1 arms) is_head))))
          ∙ ap (λ l. ((((first_lines ++ numbered (arm_text group.ops.items d) 1 arms) ++ l) ++ numbered operation_text 1 ops)
          ++ pieces h (factors T)) ++ codes "end\n") (sym (append_assoc (codes "ops ") (decimal h) (codes "\n")))
          ∙ ap₂ (λ s t. (((first_lines ++ s) ++ ((codes "ops " ++ decimal h) ++ codes "\n")) ++ t) ++ pieces h (factors T) ++ codes "end\n")
          (sym arm-pieces) (sym operation-pieces)
        where
          first_lines : List ℕ
          first_lines = head_text (wave_vector (get_or arms 0 a).wave) T.order (length arms)

-- at a wave vector of the group of generators
module _ (group : Group) (gens : List Op) (is : IsGroupOf group gens) (k : WaveVector) where
  order_of_star : (n : ℕ) → IsOrder (stands_for group) k n → IsOrder (group_of gens) k n
  order_of_star = order_along (stands_for group) (group_of gens) is.stands k

  pub star_reply_of : (xs : List ℕ) {h : ℕ} (T : PhaseTable h) → IsLittleTable group k xs T → T.order ≤ order_limit
      → (text : List ℕ)
      → IsStarText (sign_of group.phase) (stands_for group) k text
      → AreWithin (star k) (group_of gens) × IsStarReply (group_of gens) k Done text
  star_reply_of xs T table within text at = (
    one_within (group_of gens) k T.order (order_of_star T.order (table.table (other_operation group)).is_order) within,
    (
      refl,
      record {
        content = at.content;
        is_star = subst (λ s. IsStarOf s (group_of gens) k at.content) (ap sign_of is.phase)
            (star_along (stands_for group) (group_of gens) is.stands (sign_of group.phase) k at.content at.is_star);
        is_text = at.is_text;
      },
    ),
  )

  pub no_star_of : (n : ℕ) → IsOrder (stands_for group) k n → order_limit < n → IsTooLargeAt (star k) (group_of gens) n
  no_star_of n o l = first_above (star k) (group_of gens) n (refl, order_of_star n o) l

-- the operation of an arm
pub arm_inside : (ops : List Op) (arms : List Arm) → AreInList ops arms → (i : ℕ) (x : Arm) → i < length arms
    → x ≡ get_or arms i x
    → x.op < length ops
arm_inside ops arms all i x l is = subst (λ (y : Arm). y.op < length ops) (sym is) (all i x l)

pub listed_item : (ops : List Op) (n : ℕ) (g d : Op) → n < length ops → g ≡ get_or ops n g → g ≡ get_or ops n d
listed_item ops n g d l is = is ∙ get_or_default ops n g d l

-- the parts of the lines
pub head-parts : (w n a : List ℕ)
    → codes "star 1\nwave " ++ (w ++ (codes "\norder " ++ (n ++ (codes "\narms " ++ (a ++ codes "\n")))))
    ≡ line (codes "star 1") ++ line (codes "wave" ++ next_word w) ++ line (codes "order" ++ next_word n) ++ line (codes "arms" ++ next_word a)
head-parts w n a = head_regroup (codes "star 1\n") (codes "wave ") (codes "order ") (codes "arms ") (10 ∷ []) w n a

factor-parts : (before k t : List ℕ)
    → ((before ++ (codes "factor " ++ k)) ++ t) ++ 10 ∷ [] ≡ before ++ line (codes "factor" ++ next_word k ++ t)
factor-parts before k t = simp append_assoc

pub row-parts : (before : List ℕ) {h : ℕ} (T : PhaseTable h) (p : Fin h) (i : ℕ) → to_nat p ≡ i
    → ((before ++ (codes "factor " ++ decimal (i + 1))) ++ pieces h (factor T p)) ++ 10 ∷ [] ≡ before ++ factors T p
unfolding factor_line
row-parts before {h} T p i e = ap (λ n. ((before ++ (codes "factor " ++ decimal n)) ++ pieces h (factor T p)) ++ 10 ∷ []) number
    ∙ factor-parts before (decimal (suc (to_nat p))) (pieces h (factor T p))
  where
    number : i + 1 ≡ suc (to_nat p)
    number = omega (arith, e)

pub factor-word : {h : ℕ} (T : PhaseTable h) (p q : Fin h) (l x : ℕ) → l ≡ to_nat (T.product p q) → x ≡ T.exponent p q
    → codes " " ++ (decimal (l + 1) ++ (codes ":" ++ decimal x)) ≡ factor T p q
unfolding factor_word
factor-word T p q l x e f = ap₂ (λ m n. codes " " ++ (decimal m ++ (codes ":" ++ decimal n))) number f
  where
    number : l + 1 ≡ suc (to_nat (T.product p q))
    number = omega (arith, e)
