-- The route of a root, and what it asks.
use Rattle.bgp_messages.specs.declared.bgp_attributes.update.Advert.{Advert}
use Rattle.ingress_rep.specs.declared.request.Request.{Request}

pub record Rooted : Type 0 where
  pub request : Request
  pub advert : Advert
