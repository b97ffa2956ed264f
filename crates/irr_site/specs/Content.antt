-- The content of the program's answer.
--   family_content p        the size and the parts of a family
--   sites_content n s       the operations, the points and the families, with numbers of order n
--   IsRefusal group k e     the order of k is above the limit; want of memory says nothing
use Rattle.std.specs.Prelude.{ℕ, ◌<◌, map}
use Rattle.irr_space.specs.Operation.{WaveVector}
use Rattle.irr_space.specs.Reciprocal.{IsOrder}
use Rattle.irr_rat.specs.VectorMeaning.{vector}
use Rattle.irr_seitz.specs.OperationMeaning.{operation}
use Rattle.irr_cyc.specs.declared.orders.TheConstants.{ORDER_LIMIT}
use Rattle.irr_close.specs.StandsFor.{stands_for}
use Rattle.irr_close.specs.declared.group.Group.{Group}
use Rattle.irr_mult.specs.declared.error.WorkError.{WorkError}
use Rattle.irr_mult.specs.declared.error.WorkError.TheVariants.{OrderTooLarge, Memory}
use Rattle.irr_site.specs.SiteContent.{FamilyContent, SitesContent}
use Rattle.irr_site.specs.declared.part.SiteParts.{SiteParts}
use Rattle.irr_site.specs.declared.part.Sites.{Sites}

abbrev pub family_content : SiteParts → FamilyContent
family_content p = record { size = p.dim; parts = p.parts.items }

abbrev pub sites_content : ℕ → Sites → SitesContent
sites_content n s = record {
  order = n;
  operations = map operation s.ops.items;
  points = map vector s.points.items;
  induced = map family_content s.induced.items;
  displacement = family_content s.displace;
}

abbrev pub IsRefusal : Group → WaveVector → WorkError → Type 0
IsRefusal group k (OrderTooLarge n) = IsOrder (stands_for group) k n × (ORDER_LIMIT < n)
IsRefusal group k Memory = Unit {0}
