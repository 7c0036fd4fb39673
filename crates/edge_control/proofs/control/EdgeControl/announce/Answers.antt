use Rattle.std.proofs.Common.{◌≡◌, None, Option, is_some, not, true, false, sym, ap, ◌∙◌}
use Rattle.std.specs.FinMap.{FinMap}
use Rattle.label_defs.specs.Keys.{node_cmp}
use Rattle.edge_defs.specs.Edge.{Control, Taken, TakenRoute}
use Rattle.edge_defs.specs.Steps.{taken_change}
use Rattle.edge_tables.specs.taken_tables.Routes.{handed}
use Rattle.edge_tables.specs.taken_tables.Tables.{changed_at, is_news, reach, route_at}
use Rattle.control_laws.specs.Control.{Kept, control_of}
use Rattle.edge_control.proofs.PeerAnnounced.{none_left, table_anew, table_stays}
use Rattle.edge_control.proofs.control.EdgeControl.announce.Goals as goal

pub returns-then-not-is_news-clause-announced : goal.returns-then-not-is_news-clause-announced
returns-then-not-is_news-clause-announced c =
    let same : is_news (handed c.args.value.now) (route_at c.args.self.now.peers c.args.peer c.args.key.now) ≡ false =
    ap (λ (k : Kept). is_news (handed c.args.value.now) (route_at k.peers c.args.peer c.args.key.now)) (sym c.self.view_is)
    ∙ sym c.is_news.ensures ∙ c.if-not-is_news.true in
    ap (λ (tables : FinMap node_cmp Taken). record (control_of c.args.self.now) { peers = tables })
    (sym (table_stays c.args.self.now.peers c.args.peer c.args.key.now (handed c.args.value.now) c.args.now same))

pub returns-in-Ok-clause-announced : goal.returns-in-Ok-clause-announced
returns-in-Ok-clause-announced c =
    let news : is_news (handed c.args.value.now) (route_at c.args.self.now.peers c.args.peer c.args.key.now) ≡ true =
    ap (λ (k : Kept). is_news (handed c.args.value.now) (route_at k.peers c.args.peer c.args.key.now)) (sym c.self.view_is)
    ∙ sym c.is_news.ensures ∙ c.if-not-is_news.false in
    let none : route_at c.withdraw.new.self.peers c.args.peer c.args.key.now ≡ None =
    ap (λ (control : Control). route_at control.peers c.args.peer c.args.key.now) (c.withdraw.ensures.withdrawn c.args.now)
    ∙ none_left c.args.self.now.peers c.args.peer c.args.key.now (handed c.args.value.now) c.args.now in
    c.in-Ok.ensures.entered (c.in-Ok.ensures.fresh ∙ ap (λ (o : Option TakenRoute). not (is_some o)) none)
    ∙ ap (λ (control : Control). record control {
      peers =
          changed_at c.args.peer (λ taken. taken_change c.args.now taken (reach c.args.key.now (handed c.args.value.now))) control.peers;
    })
    (c.withdraw.ensures.withdrawn c.args.now)
    ∙ ap (λ (tables : FinMap node_cmp Taken). record (control_of c.args.self.now) { peers = tables })
    (table_anew c.args.self.now.peers c.args.peer c.args.key.now (handed c.args.value.now) c.args.now news)

pub returns-in-Err-clause-withdrawn : goal.returns-in-Err-clause-withdrawn
returns-in-Err-clause-withdrawn c = c.in-Err.ensures.unchanged ∙ c.withdraw.ensures.withdrawn c.args.now

pub returns-in-Err-clause-news : goal.returns-in-Err-clause-news
returns-in-Err-clause-news c =
    ap (λ (k : Kept). is_news (handed c.args.value.now) (route_at k.peers c.args.peer c.args.key.now)) (sym c.self.view_is)
    ∙ sym c.is_news.ensures ∙ c.if-not-is_news.false
