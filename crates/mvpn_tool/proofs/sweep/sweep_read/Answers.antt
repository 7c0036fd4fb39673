use Rattle.mvpn_tool.proofs.SweepLemmas.{made_holds_few, made_never_halts, number_cut, number_swept}
use Rattle.mvpn_tool.proofs.sweep.sweep_read.Goals as goal

pub sweep_script-requires-clause-labels : goal.sweep_script-requires-clause-labels
sweep_script-requires-clause-labels g c =
    made_never_halts c.made_texts_are_read.ensures c.made_runs_never_halt.ensures c.args.number c.args.script c.requires.said

pub returns-in-Ok-clause-ends : goal.returns-in-Ok-clause-ends
returns-in-Ok-clause-ends g c =
    number_swept c.args.number c.args.script c.requires.said
    (made_holds_few c.made_texts_are_read.ensures c.made_nodes_hold_few_labels.ensures c.args.number c.args.script c.requires.said)
    (g.K.Sink.written c.args.sink.now) (g.K.Sink.written c.write_numbers.new.sink) c.in_ok-swept.swept c.in_ok-swept.ensures.sweeps c.in-Ok.ensures.ok

pub returns-in-Err-clause-ends : goal.returns-in-Err-clause-ends
returns-in-Err-clause-ends g c =
    number_cut c.args.number c.args.script c.requires.said
    (made_holds_few c.made_texts_are_read.ensures c.made_nodes_hold_few_labels.ensures c.args.number c.args.script c.requires.said)
    (g.K.Sink.written c.args.sink.now) (g.K.Sink.written c.write_numbers.new.sink) c.in_ok-swept.swept c.in-Err.stop
    c.in_ok-swept.ensures.sweeps c.in-Err.ensures.part c.in-Err.ensures.nothing c.in-Err.ensures.others
