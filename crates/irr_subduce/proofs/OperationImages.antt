-- The images of the operations of a list.
--   IsMade group sub g f     f is the image of g, an operation of the group with a small vector
--   member_of_list, cell_of_list     an item of a list, as it is read
--   cell_numbers             numerators of at most 10^9
--   made_image               what the program makes is so
--   images_of_each           the images of all
use Rattle.std.proofs.Common.{◌≡◌, sym, subst, subst₂, ◌≤◌, ◌<◌, ◌^◌, ℕ, List, length, get_or, arith}
use Rattle.std.specs.List.{All}
use Rattle.irr_algebra.specs.Fin.{Fin}
use Rattle.irr_space.specs.Operation.{WaveVector}
use Rattle.irr_space.specs.CanonicalOperation.{IsNumbering}
use Rattle.irr_space.specs.Star.{IsInLittleGroup}
use Rattle.irr_seitz.specs.OperationMeaning.{operation, AreWithin}
use Rattle.irr_seitz.specs.declared.op.Op.{Op}
use Rattle.irr_close.specs.StandsFor.{stands_for}
use Rattle.irr_close.specs.declared.group.Group.{Group}
use Rattle.irr_full.specs.Restriction.{IsImage}
use Rattle.irr_star.specs.Sizes.{HasSmallVector}
use Rattle.irr_mult.specs.Listing.{item}
use Rattle.irr_setting.specs.Setting.{basis, origin}
use Rattle.irr_side.specs.ArmTraces.{AreEach, AreMembers, HasCellVector}
use Rattle.irr_side.proofs.LiftedTraces.{member_at}
use Rattle.irr_subduce.specs.Meetings.{AreImages}
use Rattle.irr_subduce.specs.Subgroup.{IsSub}
use Rattle.irr_subduce.specs.declared.sub.Sub.{Sub}
use Rattle.irr_subduce.proofs.ImageSizes.{image_is_small}
use Rattle.irr_subduce.proofs.Memberships.{member_within, small_denominator}

pub record IsMade (group : Group) (sub : Sub) (g f : Op) : Type 0 where
  pub image : IsImage (basis sub.setting) (origin sub.setting) (operation g) (operation f)
  pub member : stands_for group (operation f)
  pub small : HasSmallVector f

pub member_of_list : (group own : Group) (inner ops : List Op) → own ≡ group → ops ≡ inner → AreMembers own inner
    → (k : ℕ) (g : Op) → k < length ops → g ≡ get_or ops k g → stands_for group (operation g)
member_of_list group own inner ops same is members k g l read = (member_at group ops
    (subst₂ (λ (h : Group) (os : List Op). AreMembers h os) same (sym is) members) k g l read).0

pub cell_of_list : (inner ops : List Op) → ops ≡ inner → All HasCellVector inner → (k : ℕ) (g : Op) → k < length ops
    → g ≡ get_or ops k g → HasCellVector g
cell_of_list inner ops is cells k g l read = subst HasCellVector (sym read)
    (subst (λ (os : List Op). All HasCellVector os) (sym is) cells k g l)

pub cell_numbers : (group : Group) (g : Op) → stands_for group (operation g) → HasCellVector g → AreWithin (10 ^ 9) g.num
cell_numbers group g m cell i = let d = small_denominator group g m in let l = cell i in omega (arith, d, l)

pub made_image : (group : Group) (sub : Sub) (g f : Op) → HasCellVector g
    → IsImage (basis sub.setting) (origin sub.setting) (operation g) (operation f) → stands_for group (operation f) → IsMade group sub g f
made_image group sub g f cell image member = record {
  image = image;
  member = member;
  small = image_is_small sub.setting sub.small g f (member_within group (operation f) member) cell image;
}

pub images_of_each : (group : Group) (sub : Sub) (k : WaveVector) (inner ops : List Op)
    → IsNumbering (stands_for sub.group) (IsInLittleGroup (stands_for sub.group) k) (λ (p : Fin (length inner)). operation (item inner p))
    → AreEach (λ n f. (g : Op) → IsMade group sub (get_or inner n g) f) (length inner) ops → AreImages group sub k ops
images_of_each group sub k inner ops numbering each = record {
  inner = inner;
  numbering = numbering;
  members = λ n d l. (let m = each.each n d (subst (λ z. n < z) each.count l) d in (m.member, m.small));
  images = record { count = each.count; each = λ n f l g. (each.each n f l g).image };
}
