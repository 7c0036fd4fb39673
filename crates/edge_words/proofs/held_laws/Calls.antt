-- What an edge holds towards a peer after a note, a selection, and the end of one.
use Rattle.std.proofs.Common.{◌≡◌, ◌≢◌, ◌&&◌, Bool, true, false, not, cond, inl, inr, Some, None, refl, sym, ap, subst, ◌∙◌, arith}
use Rattle.std.specs.Ordering.{eq_by_cmp}
use Rattle.std.specs.FinMap as maps
use Rattle.std.specs.FinSet as sets
use Rattle.std.proofs.lemmas.Bool.{cases_Bool, or_cases, or_right, or_left, and_parts}
use Rattle.mv_base.specs.declared.addr.Addr.{Addr}
use Rattle.mv_base.specs.declared.ids.NodeId.{NodeId}
use Rattle.mv_base.specs.declared.ids.IfaceId.{IfaceId}
use Rattle.mv_base.specs.declared.pattern.Pattern.{Pattern}
use Rattle.bgp_messages.specs.declared.bgp_attributes.key.Key.{Key}
use Rattle.scenario_defs.specs.Rules.{Rules}
use Rattle.selective_defs.specs.Selective.{Among}
use Rattle.edge_defs.proofs.table_laws.CompareLemmas.{one_key, own_key, other_key}
use Rattle.edge_defs.specs.Edge.{Note, note_cmp, VrfPattern, pattern_cmp, Selected, Control}
use Rattle.edge_defs.specs.Held.{held_for}
use Rattle.edge_defs.specs.Keys.{Value}
use Rattle.edge_defs.specs.Originated.{selective_key, active_key, plain_value, tunnel_value, is_iface_of}
use Rattle.edge_defs.specs.Place.{EdgePlace, OwnVrf, own_vrfs, tunnel_number}
use Rattle.edge_defs.proofs.KeyLemmas.{note_total, note_exact, pattern_total, pattern_exact}
use Rattle.edge_words.proofs.calm_laws.Vrfs.{one_number, one_rd}
use Rattle.edge_words.proofs.calm_laws.Entries.{kind_of}
use Rattle.edge_words.specs.Asked.{IsIfaceOf}
use Rattle.edge_words.proofs.Members.{iface_of}
use Rattle.edge_words.specs.held_laws.Held.{IsOriginated, Inclusive, Unicast, Selective, Active, IsNotedBeside}
use Rattle.edge_words.proofs.held_laws.Originated.{rd_of, one_pattern}
use Rattle.edge_words.proofs.held_laws.Changed.{AlikeBut, held_more, held_less, held_same}

-- an interface is of one VRF
one_vrf : (place : EdgePlace) (own other : OwnVrf) (iface : IfaceId) → Among own (own_vrfs place) → Among other (own_vrfs place)
    → is_iface_of place.scenario own.id iface ≡ true → is_iface_of place.scenario other.id iface ≡ true → own ≡ other
one_vrf place own other iface a b of off =
    let one : IsIfaceOf place.scenario own.id iface = iface_of place.scenario own.id iface of in
    let two : IsIfaceOf place.scenario other.id iface = iface_of place.scenario other.id iface off in
    let both : Some one.found ≡ Some two.found = sym one.at ∙ two.at in
    let same : one.found ≡ two.found = cc in
    one_number place own other a b (sym one.of_vrf ∙ ap (λ found. found.vrf.0) same ∙ two.of_vrf)

-- what is originated, of another control in which all that it rests on stands too
moved : (place : EdgePlace) (old new : Control) (key : Key) (value : Value) (own : OwnVrf)
    → ((pattern : Pattern) (selected : Selected) → key ≡ selective_key place own.vrf pattern
    → maps.get old.selections (record { vrf = own.id; pattern = pattern }) ≡ Some selected
    → maps.get new.selections (record { vrf = own.id; pattern = pattern }) ≡ Some selected)
    → ((iface : IfaceId) (source group : Addr) → is_iface_of place.scenario own.id iface ≡ true → key ≡ active_key own.vrf source group
    → sets.contains old.notes (record { iface = iface; source = source; group = group }) ≡ true
    → sets.contains new.notes (record { iface = iface; source = source; group = group }) ≡ true)
    → IsOriginated place old own key value → IsOriginated place new own key value
moved place old new key value own selected noted (Inclusive k v) = Inclusive k v
moved place old new key value own selected noted (Unicast prefix site a k v) = Unicast prefix site a k v
moved place old new key value own selected noted (Selective pattern chosen at k v) = Selective pattern chosen (selected pattern chosen k at) k v
moved place old new key value own selected noted (Active iface source group of there k v) =
    Active iface source group of (noted iface source group of k there) k v

module _ (place : EdgePlace) (rules : Rules place.scenario) (peer : NodeId) (control : Control) (own : OwnVrf) (a : Among own (own_vrfs place)) where
  -- ---- notes

  module _ (iface : IfaceId) (source group : Addr) (of : is_iface_of place.scenario own.id iface ≡ true) where
    abbrev note : Note
    note = record { iface = iface; source = source; group = group }

    abbrev with_note : Control
    with_note = record control { notes = sets.insert control.notes note }

    abbrev without_note : Control
    without_note = record control { notes = sets.remove control.notes note }

    note_key : (other : OwnVrf) (q : Key) (n : Note) → Among other (own_vrfs place) → is_iface_of place.scenario other.id n.iface ≡ true
        → q ≡ active_key other.vrf n.source n.group → eq_by_cmp note_cmp n note ≡ true → q ≡ active_key own.vrf source group
    note_key other q n b off k tied =
        let one : n ≡ note = one_key note_exact n note tied in
        let vrf : other ≡ own =
        one_vrf place other own iface b a (subst (λ (m : Note). is_iface_of place.scenario other.id m.iface ≡ true) one off) of in
        k ∙ (λ i. active_key (vrf i).vrf (one i).source (one i).group)

    noted_alike : AlikeBut place (active_key own.vrf source group) control with_note
    noted_alike = record {
      there = λ q w ne by. record {
        own = by.own;
        among = by.among;
        is =
            moved place control with_note q w by.own (λ pattern selected k at. at)
            (λ i s g off k there. sets.contains-insert note_total control.notes note (record { iface = i; source = s; group = g })
            ∙ or_right (eq_by_cmp note_cmp (record { iface = i; source = s; group = g }) note)
            (sets.contains control.notes (record { iface = i; source = s; group = g })) there) by.is;
      };
      back = λ q w ne by. record {
        own = by.own;
        among = by.among;
        is =
            moved place with_note control q w by.own (λ pattern selected k at. at)
            (λ i s g off k there.
            let n : Note = record { iface = i; source = s; group = g } in
            elim (or_cases (eq_by_cmp note_cmp n note) (sets.contains control.notes n)
            (sym (sets.contains-insert note_total control.notes note n) ∙ there)) [
              | inl tied ↦ absurd (ne (note_key by.own q n by.among off k tied))
              | inr old ↦ old
            ]) by.is;
      };
    }

    -- a note more: the edge holds the Source Active route of its VRF, source and group
    pub noted : held_for place with_note peer ≡ maps.insert (held_for place control peer) (active_key own.vrf source group)
        (plain_value place own.vrf)
    noted = held_more place rules peer control with_note refl (active_key own.vrf source group) (plain_value place own.vrf) noted_alike (record {
      own = own;
      among = a;
      is = Active iface source group of (sets.contains-insert note_total control.notes note note
          ∙ or_left (eq_by_cmp note_cmp note note) (sets.contains control.notes note) (own_key note_total note)) refl refl;
    })

    kept_note : (n : Note) → sets.contains without_note.notes n ≡ true → sets.contains control.notes n ≡ true
    kept_note n h =
        (and_parts (not (eq_by_cmp note_cmp n note)) (sets.contains control.notes n)
        (sym (sets.contains-remove note_total control.notes note n) ∙ h)).1

    other_note : (n : Note) → eq_by_cmp note_cmp n note ≡ false → sets.contains control.notes n ≡ true → sets.contains without_note.notes n ≡ true
    other_note n apart h = sets.contains-remove note_total control.notes note n ∙ ap (λ (b : Bool). not b && sets.contains control.notes n) apart ∙ h

    unnoted_alike : AlikeBut place (active_key own.vrf source group) control without_note
    unnoted_alike = record {
      there = λ q w ne by. record {
        own = by.own;
        among = by.among;
        is =
            moved place control without_note q w by.own (λ pattern selected k at. at)
            (λ i s g off k there.
            let n : Note = record { iface = i; source = s; group = g } in
            elim (cases_Bool (eq_by_cmp note_cmp n note)) [
              | inl tied ↦ absurd (ne (note_key by.own q n by.among off k tied))
              | inr apart ↦ other_note n apart there
            ]) by.is;
      };
      back = λ q w ne by. record {
        own = by.own;
        among = by.among;
        is =
            moved place without_note control q w by.own (λ pattern selected k at. at)
            (λ i s g off k there. kept_note (record { iface = i; source = s; group = g }) there) by.is;
      };
    }

    -- the last note of a VRF for a source and a group goes: the edge holds its Source Active route no longer
    pub unnoted : (IsNotedBeside place control own note → ⊥)
        → held_for place without_note peer ≡ maps.remove (held_for place control peer) (active_key own.vrf source group)
    unnoted none =
        held_less place rules peer control without_note refl (active_key own.vrf source group) refl unnoted_alike
        (λ value by. gone value by.own by.among by.is)
      where
        gone : (value : Value) (other : OwnVrf) → Among other (own_vrfs place)
            → IsOriginated place without_note other (active_key own.vrf source group) value → ⊥
        gone value other b (Inclusive k v) = absurd (let bad : 5 ≡ 1 = ap kind_of k in omega (arith, bad))
        gone value other b (Unicast prefix site c k v) = absurd (let bad : 5 ≡ 0 = ap kind_of k in omega (arith, bad))
        gone value other b (Selective pattern selected at k v) = absurd (let bad : 5 ≡ 3 = ap kind_of k in omega (arith, bad))
        gone value other b (Active i s g off there k v) =
            let sources : source ≡ s = cc in
            let groups : group ≡ g = cc in
            let distinguishers : own.vrf.rd ≡ other.vrf.rd = ap rd_of k in
            let vrf : own ≡ other = one_rd place own other rules a b distinguishers in
            let n : Note = record { iface = i; source = s; group = g } in
            let parts =
            and_parts (not (eq_by_cmp note_cmp n note)) (sets.contains control.notes n)
            (sym (sets.contains-remove note_total control.notes note n) ∙ there) in
            none (record {
              iface = i;
              of_vrf = subst (λ (o : OwnVrf). is_iface_of place.scenario o.id i ≡ true) (sym vrf) off;
              other = λ same.
                  let one : n ≡ note = λ j. record { iface = same j; source = sym sources j; group = sym groups j } in
                  let tied : eq_by_cmp note_cmp n note ≡ true = ap (λ (m : Note). eq_by_cmp note_cmp m note) one ∙ own_key note_total note in
                  let bad : false ≡ true = ap not (sym tied) ∙ parts.0 in cc;
              noted = (λ j. sets.contains control.notes (record { iface = i; source = sources j; group = groups j })) ∙ parts.1;
            })

    -- any other note of it: nothing changes
    pub unnoted_beside : IsNotedBeside place control own note → held_for place without_note peer ≡ held_for place control peer
    unnoted_beside beside = held_same place rules peer control without_note refl
        (λ q w by. record { own = by.own; among = by.among; is = kept q w by.own by.among by.is })
        (λ q w by. record {
          own = by.own;
          among = by.among;
          is =
              moved place without_note control q w by.own (λ pattern selected k at. at)
              (λ i s g off k there. kept_note (record { iface = i; source = s; group = g }) there) by.is;
        })
      where
        besides : Note
        besides = record { iface = beside.iface; source = source; group = group }

        apart : eq_by_cmp note_cmp besides note ≡ false
        apart = other_key note_exact besides note (λ same. beside.other (ap (λ (n : Note). n.iface) same))

        kept : (q : Key) (w : Value) (other : OwnVrf) → Among other (own_vrfs place) → IsOriginated place control other q w
            → IsOriginated place without_note other q w
        kept q w other b (Inclusive k v) = Inclusive k v
        kept q w other b (Unicast prefix site c k v) = Unicast prefix site c k v
        kept q w other b (Selective pattern selected at k v) = Selective pattern selected at k v
        kept q w other b (Active i s g off there k v) =
            let n : Note = record { iface = i; source = s; group = g } in
            elim (cases_Bool (eq_by_cmp note_cmp n note)) [
              | inr far ↦ Active i s g off (other_note n far there) k v
              | inl tied ↦
                  let one : n ≡ note = one_key note_exact n note tied in
                  let vrf : other ≡ own =
                  one_vrf place other own i b a off (subst (λ (m : Note). is_iface_of place.scenario own.id m.iface ≡ true) (sym one) of) in
                  Active beside.iface source group (subst (λ (o : OwnVrf). is_iface_of place.scenario o.id beside.iface ≡ true) (sym vrf)
                  beside.of_vrf)
                  (other_note besides apart beside.noted) (k ∙ (λ j. active_key other.vrf (one j).source (one j).group)) v
            ]

  -- ---- selections

  module _ (pattern : Pattern) where
    abbrev at : VrfPattern
    at = record { vrf = own.id; pattern = pattern }

    abbrev without_selection : Control
    without_selection = record control { selections = maps.remove control.selections at }

    abbrev with_selected : Selected → Control
    with_selected selected = record control { selections = maps.insert control.selections at selected }

    pattern_apart : (other : OwnVrf) (q : Key) (wanted : Pattern) → Among other (own_vrfs place) → q ≢ selective_key place own.vrf pattern
        → q ≡ selective_key place other.vrf wanted → eq_by_cmp pattern_cmp (record { vrf = other.id; pattern = wanted }) at ≡ false
    pattern_apart other q wanted b ne k = other_key pattern_exact (record { vrf = other.id; pattern = wanted }) at (λ same.
        let vrf : other ≡ own = one_number place other own b a (ap (λ (p : VrfPattern). p.vrf.0) same) in
        ne (k ∙ (λ j. selective_key place (vrf j).vrf (same j).pattern)))

    -- a selection more: the edge holds its S-PMSI A-D route
    pub selected_more : (selected : Selected)
        → held_for place (with_selected selected) peer
        ≡ maps.insert (held_for place control peer) (selective_key place own.vrf pattern)
        (tunnel_value place own.vrf (tunnel_number own.vrf selected.number))
    selected_more selected =
        held_more place rules peer control (with_selected selected) refl (selective_key place own.vrf pattern)
        (tunnel_value place own.vrf (tunnel_number own.vrf selected.number))
        (record {
          there = λ q w ne by. record {
            own = by.own;
            among = by.among;
            is =
                moved place control (with_selected selected) q w by.own (λ p chosen k stands.
                maps.get-insert pattern_total control.selections at selected (record { vrf = by.own.id; pattern = p })
                ∙ ap (λ (b : Bool). cond b (Some selected) (maps.get control.selections (record { vrf = by.own.id; pattern = p })))
                (pattern_apart by.own q p by.among ne k) ∙ stands)
                (λ i s g off k there. there) by.is;
          };
          back = λ q w ne by. record {
            own = by.own;
            among = by.among;
            is =
                moved place (with_selected selected) control q w by.own (λ p chosen k stands.
                sym (maps.get-insert pattern_total control.selections at selected (record { vrf = by.own.id; pattern = p })
                ∙ ap (λ (b : Bool). cond b (Some selected) (maps.get control.selections (record { vrf = by.own.id; pattern = p })))
                (pattern_apart by.own q p by.among ne k)) ∙ stands)
                (λ i s g off k there. there) by.is;
          };
        })
        (record {
          own = own;
          among = a;
          is = Selective pattern selected
              (maps.get-insert pattern_total control.selections at selected at
              ∙ ap (λ (b : Bool). cond b (Some selected) (maps.get control.selections at)) (own_key pattern_total at)) refl refl;
        })

    -- a selection less
    pub selected_less : held_for place without_selection peer ≡ maps.remove (held_for place control peer) (selective_key place own.vrf pattern)
    selected_less = held_less place rules peer control without_selection refl (selective_key place own.vrf pattern) refl
        (record {
          there = λ q w ne by. record {
            own = by.own;
            among = by.among;
            is =
                moved place control without_selection q w by.own (λ p chosen k stands.
                maps.get-remove pattern_total control.selections at (record { vrf = by.own.id; pattern = p })
                ∙ ap (λ (b : Bool). cond b None (maps.get control.selections (record { vrf = by.own.id; pattern = p })))
                (pattern_apart by.own q p by.among ne k) ∙ stands)
                (λ i s g off k there. there) by.is;
          };
          back = λ q w ne by. record {
            own = by.own;
            among = by.among;
            is =
                moved place without_selection control q w by.own (λ p chosen k stands.
                sym (maps.get-remove pattern_total control.selections at (record { vrf = by.own.id; pattern = p })
                ∙ ap (λ (b : Bool). cond b None (maps.get control.selections (record { vrf = by.own.id; pattern = p })))
                (pattern_apart by.own q p by.among ne k)) ∙ stands)
                (λ i s g off k there. there) by.is;
          };
        })
        (λ value by. gone value by.own by.among by.is)
      where
        gone : (value : Value) (other : OwnVrf) → Among other (own_vrfs place)
            → IsOriginated place without_selection other (selective_key place own.vrf pattern) value → ⊥
        gone value other b (Inclusive k v) = absurd (let bad : 3 ≡ 1 = ap kind_of k in omega (arith, bad))
        gone value other b (Unicast prefix site c k v) = absurd (let bad : 3 ≡ 0 = ap kind_of k in omega (arith, bad))
        gone value other b (Active i s g off there k v) = absurd (let bad : 3 ≡ 5 = ap kind_of k in omega (arith, bad))
        gone value other b (Selective p chosen stands k v) =
            let vrf : own ≡ other = one_rd place own other rules a b (ap rd_of k) in
            let keys : selective_key place own.vrf pattern ≡ selective_key place own.vrf p = k ∙ (λ j. selective_key place (sym vrf j).vrf p) in
            let same : pattern ≡ p = one_pattern place own pattern p keys in
            let there : record { vrf = other.id; pattern = p } ≡ at = λ j. record { vrf = (sym vrf j).id; pattern = sym same j } in
            let none : maps.get without_selection.selections (record { vrf = other.id; pattern = p }) ≡ None =
            maps.get-remove pattern_total control.selections at (record { vrf = other.id; pattern = p })
            ∙ ap (λ (b : Bool). cond b None (maps.get control.selections (record { vrf = other.id; pattern = p })))
            (ap (λ (x : VrfPattern). eq_by_cmp pattern_cmp x at) there ∙ own_key pattern_total at) in
            let bad : None ≡ Some chosen = sym none ∙ stands in cc
