use Rattle.std.proofs.Common.{ap, sym, ◌∙◌}
use Rattle.std.specs.Int.{w32, to_be_bytes}
use Rattle.ingress_text.specs.declared.peers.Peer.{Peer}
use Rattle.ingress_laws.specs.Answered.{octets_of}
use Rattle.ingress_laws.proofs.HeardLemmas.{at_end, octets_fit}
use Rattle.ingress_laws.proofs.RouteLemmas.{route_from, route_to}
use Rattle.ingress_laws.proofs.texts.answers_are_routes.Goals as goal

pub returns : goal.returns
returns c = λ root lines said n peer is advert.
    let fits = octets_fit root lines said n in
    let answer = ap (λ (p : Peer). p.answer) ((at_end root n lines said.addresses fits).known peer is) in (
      λ e. route_from root.request (to_be_bytes w32 n) (octets_of root n lines) fits advert (sym answer ∙ e),
      λ l. answer ∙ route_to root.request (to_be_bytes w32 n) (octets_of root n lines) fits advert l,
    )
