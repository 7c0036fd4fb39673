use Rattle.std.proofs.Common.{◌∙◌, Ok, Err, refl, sym, ap, subst}
use Rattle.edge_defs.specs.Steps.{Customer, Pim, Rerouted, Timers}
use Rattle.edge_routing.specs.edge_labels.declared.own_call.OwnCall.TheVariants as owns
use Rattle.edge_core.specs.Called.{going}
use Rattle.edge_core.specs.Calls.{Fits, MakesCall, call_of}
use Rattle.edge_core.specs.declared.edge_call.CustomerCall.{CustomerCall}
use Rattle.edge_core.specs.declared.edge_call.EdgeCall.{EdgeCall}
use Rattle.edge_core.specs.declared.edge_call.EdgeCall.TheVariants as edges
use Rattle.edge_routing.specs.declared.routing.EdgeRouting.{EdgeRouting}
use Rattle.edge_core.specs.declared.fault.EdgeFault.TheVariants as faults
use Rattle.edge_core.proofs.CallLemmas.{full_call, lacking_call, plain_call, roomy_call}
use Rattle.edge_core.proofs.SessionLemmas.{midway}
use Rattle.edge_core.proofs.parts.Parts.call.Goals as goal

pub take_pim-requires-clause-own : goal.take_pim-requires-clause-own
take_pim-requires-clause-own c = (subst (λ (call : EdgeCall). Fits (going c.args.self.now) (call_of call)) (c.in-Customer.is ∙ ap (λ (own : CustomerCall). edges.Customer own) c.in-Pim.is) c.requires.fits).0

pub take_pim-requires-clause-groups : goal.take_pim-requires-clause-groups
take_pim-requires-clause-groups c =
    (subst (λ (call : EdgeCall). Fits (going c.args.self.now) (call_of call)) (c.in-Customer.is ∙ ap (λ (own : CustomerCall). edges.Customer own) c.in-Pim.is) c.requires.fits).1

pub settle-requires-clause-called : goal.settle-requires-clause-called
settle-requires-clause-called c =
    let old = c.args.self.now in
    let call = Customer (Pim c.in-Pim.iface c.in-Pim.message.now) in
    record {
      call = call;
      old = going old;
      is = midway c.args.core.now c.args.now owns.None call old c.take_pim.new.self old.streams (Ok c.in-Ok.told) refl c.requires.ready.live
          c.requires.ready.nodes refl tt refl c.take_pim.ensures.home c.in-Ok.ensures.stepped;
    }

pub returns-in-Ok : goal.returns-in-Ok
returns-in-Ok c =
    let old = c.args.self.now in
    let call = Customer (Pim c.in-Pim.iface c.in-Pim.message.now) in
    subst (λ (call : EdgeCall). MakesCall c.args.core.now c.args.now (call_of call) c.args.self.now c.settle.new.self c.settle.result)
    (sym (c.in-Customer.is ∙ ap (λ (own : CustomerCall). edges.Customer own) c.in-Pim.is))
    (roomy_call c.args.core.now c.args.now call old c.settle.new.self c.settle.result c.in-Ok.ensures.fits
    (c.settle.ensures.answers call (going old)
    (midway c.args.core.now c.args.now owns.None call old c.take_pim.new.self old.streams (Ok c.in-Ok.told) refl c.requires.ready.live c.requires.ready.nodes refl
    tt refl c.take_pim.ensures.home c.in-Ok.ensures.stepped))
    c.settle.ensures.only tt)

pub returns-in-Err-Full : goal.returns-in-Err-Full
returns-in-Err-Full c =
    let old = c.args.self.now in
    let full = c.take_pim.ensures.full (c.in-Err-Full.is ∙ ap (λ fault. Err fault) c.in-Err-Full.field-0-is) in
    subst (λ (call : EdgeCall). MakesCall c.args.core.now c.args.now (call_of call) c.args.self.now
    (record c.args.self.now { routing = c.take_pim.new.self }) (Err faults.Full))
    (sym (c.in-Customer.is ∙ ap (λ (own : CustomerCall). edges.Customer own) c.in-Pim.is))
    (full_call c.args.core.now c.args.now c.in-Pim.iface c.in-Pim.message.now old (record old { routing = c.take_pim.new.self })
    c.requires.ready.live full.0 (ap (λ (routing : EdgeRouting). record c.args.self.now { routing = routing }) full.1))

pub returns-in-Err-NoMemory : goal.returns-in-Err-NoMemory
returns-in-Err-NoMemory c =
    let old = c.args.self.now in
    subst (λ (call : EdgeCall). MakesCall c.args.core.now c.args.now (call_of call) c.args.self.now
    (record c.args.self.now { routing = c.take_pim.new.self }) (Err faults.NoMemory))
    (sym (c.in-Customer.is ∙ ap (λ (own : CustomerCall). edges.Customer own) c.in-Pim.is))
    (lacking_call c.args.core.now c.args.now c.in-Pim.iface c.in-Pim.message.now old
    (record old { routing = c.take_pim.new.self }) c.take_pim.ensures.home)

pub note-requires-clause-own : goal.note-requires-clause-own
note-requires-clause-own c = (subst (λ (call : EdgeCall). Fits (going c.args.self.now) (call_of call)) (c.in-Customer.is ∙ ap (λ (own : CustomerCall). edges.Customer own) c.in-Active.is) c.requires.fits).0

pub note-requires-clause-group : goal.note-requires-clause-group
note-requires-clause-group c = (subst (λ (call : EdgeCall). Fits (going c.args.self.now) (call_of call)) (c.in-Customer.is ∙ ap (λ (own : CustomerCall). edges.Customer own) c.in-Active.is) c.requires.fits).1

pub returns-in-Active : goal.returns-in-Active
returns-in-Active c =
    subst (λ (call : EdgeCall). MakesCall c.args.core.now c.args.now (call_of call) c.args.self.now c.note.new.self c.note.result)
    (sym (c.in-Customer.is ∙ ap (λ (own : CustomerCall). edges.Customer own) c.in-Active.is))
    (record {
      settles = c.note.ensures.settles;
      only = c.note.ensures.only;
      fits = c.note.ensures.fits;
      full = c.note.ensures.full;
      toward = tt;
    })

pub unnote-requires-clause-own : goal.unnote-requires-clause-own
unnote-requires-clause-own c = (subst (λ (call : EdgeCall). Fits (going c.args.self.now) (call_of call)) (c.in-Customer.is ∙ ap (λ (own : CustomerCall). edges.Customer own) c.in-Idle.is) c.requires.fits).0

pub unnote-requires-clause-group : goal.unnote-requires-clause-group
unnote-requires-clause-group c = (subst (λ (call : EdgeCall). Fits (going c.args.self.now) (call_of call)) (c.in-Customer.is ∙ ap (λ (own : CustomerCall). edges.Customer own) c.in-Idle.is) c.requires.fits).1

pub returns-in-Idle : goal.returns-in-Idle
returns-in-Idle c =
    subst (λ (call : EdgeCall). MakesCall c.args.core.now c.args.now (call_of call) c.args.self.now c.unnote.new.self c.unnote.result)
    (sym (c.in-Customer.is ∙ ap (λ (own : CustomerCall). edges.Customer own) c.in-Idle.is))
    (plain_call c.args.core.now c.args.now _ c.args.self.now c.unnote.new.self c.unnote.result (λ control. refl) refl (c.unnote.ensures.settles)
    c.unnote.ensures.only tt)

pub select-requires-clause-own : goal.select-requires-clause-own
select-requires-clause-own c = (subst (λ (call : EdgeCall). Fits (going c.args.self.now) (call_of call)) (c.in-Customer.is ∙ ap (λ (own : CustomerCall). edges.Customer own) c.in-Select.is) c.requires.fits).0

pub select-requires-clause-pattern : goal.select-requires-clause-pattern
select-requires-clause-pattern c =
    (subst (λ (call : EdgeCall). Fits (going c.args.self.now) (call_of call)) (c.in-Customer.is ∙ ap (λ (own : CustomerCall). edges.Customer own) c.in-Select.is) c.requires.fits).1

pub select-requires-clause-new : goal.select-requires-clause-new
select-requires-clause-new c =
    (subst (λ (call : EdgeCall). Fits (going c.args.self.now) (call_of call)) (c.in-Customer.is ∙ ap (λ (own : CustomerCall). edges.Customer own) c.in-Select.is) c.requires.fits).2 refl

pub returns-in-Select : goal.returns-in-Select
returns-in-Select c =
    subst (λ (call : EdgeCall). MakesCall c.args.core.now c.args.now (call_of call) c.args.self.now c.select.new.self c.select.result)
    (sym (c.in-Customer.is ∙ ap (λ (own : CustomerCall). edges.Customer own) c.in-Select.is))
    (record {
      settles = c.select.ensures.settles c.args.core.now;
      only = c.select.ensures.only;
      fits = c.select.ensures.fits;
      full = c.select.ensures.full;
      toward = tt;
    })

pub unselect-requires-clause-own : goal.unselect-requires-clause-own
unselect-requires-clause-own c =
    (subst (λ (call : EdgeCall). Fits (going c.args.self.now) (call_of call)) (c.in-Customer.is ∙ ap (λ (own : CustomerCall). edges.Customer own) c.in-Unselect.is) c.requires.fits).0

pub unselect-requires-clause-pattern : goal.unselect-requires-clause-pattern
unselect-requires-clause-pattern c =
    (subst (λ (call : EdgeCall). Fits (going c.args.self.now) (call_of call)) (c.in-Customer.is ∙ ap (λ (own : CustomerCall). edges.Customer own) c.in-Unselect.is) c.requires.fits).1

pub returns-in-Unselect : goal.returns-in-Unselect
returns-in-Unselect c =
    subst (λ (call : EdgeCall). MakesCall c.args.core.now c.args.now (call_of call) c.args.self.now c.unselect.new.self c.unselect.result)
    (sym (c.in-Customer.is ∙ ap (λ (own : CustomerCall). edges.Customer own) c.in-Unselect.is))
    (plain_call c.args.core.now c.args.now _ c.args.self.now c.unselect.new.self c.unselect.result (λ control. refl) refl
    (c.unselect.ensures.settles c.args.core.now c.args.now)
    c.unselect.ensures.only tt)

pub raise-requires-clause-fits : goal.raise-requires-clause-fits
raise-requires-clause-fits c = subst (λ (call : EdgeCall). Fits (going c.args.self.now) (call_of call)) c.in-Raised.is c.requires.fits

pub returns-in-Raised : goal.returns-in-Raised
returns-in-Raised c =
    subst (λ (call : EdgeCall). MakesCall c.args.core.now c.args.now (call_of call) c.args.self.now c.raise.new.self c.raise.result)
    (sym c.in-Raised.is) c.raise.ensures

pub returns-in-Noticed : goal.returns-in-Noticed
returns-in-Noticed c =
    subst (λ (call : EdgeCall). MakesCall c.args.core.now c.args.now (call_of call) c.args.self.now c.lose.new.self c.lose.result)
    (sym c.in-Noticed.is) c.lose.ensures

pub returns-in-Timers : goal.returns-in-Timers
returns-in-Timers c =
    subst (λ (call : EdgeCall). MakesCall c.args.core.now c.args.now (call_of call) c.args.self.now c.run_timers.new.self c.run_timers.result)
    (sym c.in-Timers.is)
    (plain_call c.args.core.now c.args.now Timers c.args.self.now c.run_timers.new.self c.run_timers.result (λ control. refl) refl
    c.run_timers.ensures.settles c.run_timers.ensures.only tt)

pub returns-in-Rerouted : goal.returns-in-Rerouted
returns-in-Rerouted c =
    subst (λ (call : EdgeCall). MakesCall c.args.core.now c.args.now (call_of call) c.args.self.now c.reroute.new.self c.reroute.result)
    (sym c.in-Rerouted.is)
    (plain_call c.args.core.now c.args.now Rerouted c.args.self.now c.reroute.new.self c.reroute.result (λ control. refl) refl
    c.reroute.ensures.settles c.reroute.ensures.only c.reroute.ensures.toward)
