use Rattle.std.proofs.Common.{rules, ◌≡◌, ℕ, List, length, min, sum_by, ap, ◌∙◌, arith}
use Rattle.std.specs.Map.{lookup}
use Rattle.indexmap.proofs.CallerLemmas.{filter-RetainsPairs}
use Rattle.net_sessions.specs.session_transit.Kept.{is_key, is_key_at}
use Rattle.net_sessions.proofs.session_transit.KeptLemmas.{without, lookup_without}
use Rattle.net_sessions.proofs.session_transit.Totals.{most, counted_anew}
use Rattle.net_sessions.proofs.session_transit.sessions.lose_all.Goals as goal

pub returns-clause-lost : goal.returns-clause-lost
returns-clause-lost c = λ k.
    let left : c.retain.new.self.entries ≡ without (is_key_at c.args.node) c.args.sessions.now.entries =
    filter-RetainsPairs _ _ _ (λ k v b w g call. search rules) _ _ c.retain.ensures.filtered in
    ap (lookup (is_key k)) left ∙ lookup_without (is_key_at c.args.node) k c.args.sessions.now.entries

pub returns-clause-counted : goal.returns-clause-counted
returns-clause-counted c =
    let left : c.retain.new.self.entries ≡ without (is_key_at c.args.node) c.args.sessions.now.entries =
    filter-RetainsPairs _ _ _ (λ k v b w g call. search rules) _ _ c.retain.ensures.filtered in
    counted_anew (is_key_at c.args.node) c.args.sessions.now c.retain.new.self c.count_in.result c.requires.unique c.retain.ensures.unique left
    (omega (arith, c.requires.counted))
    (c.count_in.ensures ∙ ap (λ (all : List (List ℕ)). min (sum_by (λ octets. length octets) all) most) (c.as_slice.ensures ∙ c.values.ensures.rest))
