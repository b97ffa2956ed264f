-- The parts of the families of a site in the program.
--   IsDisplacedPart ..     the size and the parts are those of the family of displacements
--   AreInducedParts f ps   ps has, for each representation of the site group, the size and the parts of the family that
--                          it induces
use Rattle.std.specs.Prelude.{ℕ, ◌≡◌, List, length, suc, slice_index_or, Option, Vec}
use Rattle.std.specs.Global.{Global}
use Rattle.irr_algebra.specs.Fin.{Fin, to_nat}
use Rattle.irr_algebra.specs.Pair.{times}
use Rattle.irr_number.specs.Number.{Number}
use Rattle.irr_theory.specs.FactorSystem.{Representation}
use Rattle.irr_space.specs.Operation.{Operation, Vector, WaveVector}
use Rattle.irr_space.specs.PhaseTable.{phases_over}
use Rattle.irr_space.specs.CompleteList.{over}
use Rattle.irr_seitz.specs.PhaseMeaning.{sign_of}
use Rattle.irr_rep.specs.Twisted.{operation_places, phase_table, place_count}
use Rattle.irr_rep.specs.declared.table.Twisted.{Twisted}
use Rattle.irr_close.specs.declared.group.Group.{Group}
use Rattle.irr_little.specs.Table.{listed_operations}
use Rattle.irr_mult.specs.declared.star.SmallCharacter.{SmallCharacter}
use Rattle.irr_orbit.specs.SiteFamily.{IsDisplacement, IsInduced}
use Rattle.irr_site.specs.Content.{family_content}
use Rattle.irr_site.specs.Families.{Frame}
use Rattle.irr_site.specs.SiteContent.{ArePartsIn}
use Rattle.irr_site.specs.declared.part.SiteParts.{SiteParts}
use Rattle.irr_site.specs.declared.rest.Rest.{Rest}

module _ {S : Type 0} {order : S → ℕ} {value : (n : ℕ) → S → Number n} {group : Group} {x : Vector} {k : WaveVector}
    {n : ℕ} {t : Twisted} {small : List (SmallCharacter S)} {rows : List (Vec (Option Rest) Global)}
    {cs : List (SmallCharacter S)} {sites : ℕ} (f : Frame order value group x k n t small rows cs sites) where
  abbrev ops : Fin (place_count t) → Operation
  ops = listed_operations group (place_count t) (operation_places t) f.none

  pub record IsInducedPart (m : Fin f.characters.list.count) (p : SiteParts) : Type 0 where
    pub label : p.label ≡ suc (to_nat m)
    pub family : Representation (phases_over (phase_table t) n f.small_rows.divides)
        (times f.orbit.sites (f.characters.list.size m))
    pub is_induced : (i : Fin (place_count t)) → IsInduced (sign_of group.phase) k n f.orbit
        (over f.table n f.characters.divides (f.characters.list.member m)).at (ops i) (family.at i)
    pub parts : ArePartsIn (phase_table t) f.small_rows.list n f.small_rows.divides family (family_content p)

  pub record AreInducedParts (ps : List SiteParts) : Type 0 where
    pub count : length ps ≡ f.characters.list.count
    pub each : (m : Fin f.characters.list.count) (e : SiteParts) → IsInducedPart m (slice_index_or ps (to_nat m) e)

  pub record IsDisplacedPart (p : SiteParts) : Type 0 where
    pub label : p.label ≡ 0
    pub family : Representation (phases_over (phase_table t) n f.small_rows.divides) (times f.orbit.sites 3)
    pub is_displacement : (i : Fin (place_count t)) → IsDisplacement (sign_of group.phase) k n f.orbit (ops i)
        (family.at i)
    pub parts : ArePartsIn (phase_table t) f.small_rows.list n f.small_rows.divides family (family_content p)
