-- The numbers of a site group and of the sites of its point.
--   AreNumbers group x n      the products of rotations, the numbers of the site group, and those of the sites
use Rattle.irr_space.specs.Operation.{Vector}
use Rattle.irr_close.specs.declared.group.Group.{Group}
use Rattle.irr_site.specs.Orbits.{AreSiteNumbers}
use Rattle.irr_site.specs.Points.{AreSitePlaces}
use Rattle.irr_site.specs.Products.{AreProducts}
use Rattle.irr_site.specs.declared.rest.Numbers.{Numbers}

pub record AreNumbers (group : Group) (x : Vector) (n : Numbers) : Type 0 where
  pub products : AreProducts group n.products.items
  pub places : AreSitePlaces group x n.places.items
  pub sites : AreSiteNumbers group x n.sites.items
