use Rattle.std.proofs.Common.{◌∙◌, sym, subst}
use Rattle.scenario_defs.specs.declared.report.FaultWord.{FaultWord}
use Rattle.scenario_defs.specs.declared.report.Refusal.TheVariants as refusals
use Rattle.network_events.specs.Datagrams.{IsRefusedFor}
use Rattle.network_events.proofs.DatagramLemmas.{refused_fault, refused_full}
use Rattle.network_events.proofs.datagrams.fitting.Goals as goal

pub returns-then-are_links_full-clause-refused : goal.returns-then-are_links_full-clause-refused
returns-then-are_links_full-clause-refused c =
    refused_full c.args.network.now c.args.octets.now c.in-Ok.datagram (sym c.read_packet.ensures.exact ∙ c.in-Ok.is)
    (λ at ready is. sym (c.are_links_full.ensures at is ready.linked) ∙ c.if-are_links_full.true)

pub returns-else-are_links_full-clause-fits : goal.returns-else-are_links_full-clause-fits
returns-else-are_links_full-clause-fits c = record {
  is = sym c.read_packet.ensures.exact ∙ c.in-Ok.is;
  room = λ at ready is. sym (c.are_links_full.ensures at is ready.linked) ∙ c.if-are_links_full.false;
}

pub returns-in-Err-clause-refused : goal.returns-in-Err-clause-refused
returns-in-Err-clause-refused c =
    subst (λ (word : FaultWord). IsRefusedFor c.args.network.now c.args.octets.now (refusals.Bytes c.in-Err.place word)) (sym c.packet_word.ensures)
    (refused_fault c.args.network.now c.args.octets.now (c.in-Err.place, c.in-Err.fault) (sym c.read_packet.ensures.exact ∙ c.in-Err.is))
