use Rattle.network_acts.specs.Handling.{MayLand}
use Rattle.network_acts.proofs.CopyActs.{finished, hops, none_lands, some_idle, some_landed}
use Rattle.network_acts.proofs.network.Network.hop.Goals as goal

pub land-requires : goal.land-requires
land-requires c = record { idle = some_idle (MayLand c.args.to) _ c.args.self.now c.self.view_is c.requires.network }

pub arrive-requires : goal.arrive-requires
arrive-requires c = record {
  network =
      some_landed _ c.args.self.now c.self.view_is c.args.from c.args.to c.args.place c.in-Some.landed c.land.new.self
      (λ world idle. c.in-Some.ensures.landed world idle) c.requires.network;
}

pub returns-in-None : goal.returns-in-None
returns-in-None c = λ at may is.
    none_lands _ c.args.self.now c.self.view_is c.args.from c.args.to c.args.place c.land.new.self c.args.lines.now
    (λ world idle. c.land.ensures.none c.in-None.is world idle)
    (c.land.ensures.unchanged c.in-None.is) at is

pub returns-in_ok-arrive-in-Some : goal.returns-in_ok-arrive-in-Some
returns-in_ok-arrive-in-Some c =
    hops _ c.args.self.now c.self.view_is c.args.from c.args.to c.args.place c.in-Some.landed c.land.new.self c.arrive.new.self _ c.args.lines.now
    c.arrive.new.lines
    (λ world idle. c.in-Some.ensures.landed world idle) (λ at place may is. c.in_ok-arrive-in-Some.ensures at place may is)
    (finished _ c.arrive.new.self c.self-in-Some.view_is c.finish.new.self c.finish.ensures)
