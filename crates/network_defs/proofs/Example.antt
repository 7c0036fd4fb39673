-- The worked row of label sessions.
use Rattle.std.proofs.Common.{refl}
use Rattle.network_defs.specs.Example.{first_edge, second_edge, core_node, network, LabelSessionsComeUp}
use Rattle.network_defs.proofs.Small.{Small, at_start, holds_up, end_down, later}
use Rattle.network_defs.proofs.Readings.{world}
use Rattle.network_defs.proofs.Comings.{lost_between, both_up, tells, waits, timers, is_lost, is_noticed, is_raised, is_refused}

-- ---- the row

abbrev raised_one : Small
raised_one = both_up first_edge (at_start network)

abbrev raised_both : Small
raised_both = both_up second_edge raised_one

abbrev waited : Small
waited = later 2 raised_both

abbrev due : Small
due = later 1 waited

abbrev held_first : Small
held_first = holds_up 2 first_edge due

abbrev held_second : Small
held_second = holds_up 2 second_edge held_first

abbrev all_held : Small
all_held = holds_up 2 core_node held_second

abbrev one_lost : Small
one_lost = lost_between first_edge core_node all_held

abbrev noticed_first : Small
noticed_first = end_down first_edge core_node one_lost

abbrev noticed_both : Small
noticed_both = end_down core_node first_edge noticed_first

abbrev raised_again : Small
raised_again = both_up first_edge noticed_both

pub label_sessions : LabelSessionsComeUp
label_sessions = record {
  up = world raised_both;
  ready = world all_held;
  again = world raised_again;
  come_up = (
    _,
    _,
    _,
    tells 1 (at_start network),
    refl,
    (
      _,
      _,
      _,
      is_raised 2 first_edge (at_start network) refl refl refl,
      refl,
      (
        _,
        _,
        _,
        is_raised 3 second_edge raised_one refl refl refl,
        refl,
        (
          _,
          _,
          _,
          tells 4 raised_both,
          refl,
          (refl, refl),
        ),
      ),
    ),
  );
  become_ready = (
    _,
    _,
    _,
    waits 5 2 raised_both,
    refl,
    (
      _,
      _,
      _,
      tells 6 waited,
      refl,
      (
        _,
        _,
        _,
        waits 7 1 waited,
        refl,
        (
          _,
          _,
          _,
          tells 8 due,
          refl,
          (
            _,
            _,
            _,
            timers 9 first_edge due,
            refl,
            (
              _,
              _,
              _,
              timers 10 second_edge held_first,
              refl,
              (
                _,
                _,
                _,
                timers 11 core_node held_second,
                refl,
                (
                  _,
                  _,
                  _,
                  tells 12 all_held,
                  refl,
                  (refl, refl),
                ),
              ),
            ),
          ),
        ),
      ),
    ),
  );
  come_again = (
    _,
    _,
    _,
    is_lost 13 first_edge core_node all_held refl,
    refl,
    (
      _,
      _,
      _,
      tells 14 one_lost,
      refl,
      (
        _,
        _,
        _,
        is_refused 15 first_edge one_lost refl,
        refl,
        (
          _,
          _,
          _,
          is_noticed 16 first_edge core_node one_lost refl refl,
          refl,
          (
            _,
            _,
            _,
            is_refused 17 first_edge noticed_first refl,
            refl,
            (
              _,
              _,
              _,
              is_noticed 18 core_node first_edge noticed_first refl refl,
              refl,
              (
                _,
                _,
                _,
                is_raised 19 first_edge noticed_both refl refl refl,
                refl,
                (
                  _,
                  _,
                  _,
                  tells 20 raised_again,
                  refl,
                  (refl, refl),
                ),
              ),
            ),
          ),
        ),
      ),
    ),
  );
}
