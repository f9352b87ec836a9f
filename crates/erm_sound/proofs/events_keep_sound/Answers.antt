use Rattle.erm_sound.proofs.Steps.{sound_by}
use Rattle.erm_sound.proofs.events_keep_sound.Goals as goal

pub returns : goal.returns
returns g core d seat kind sound e =
    sound_by d record {
      common = record {
        ranges = g.ranges_are_kept.ensures.shared core d seat kind sound e;
        counters = g.numbers_are_kept.ensures.counters core d seat kind sound e;
        cells = g.cells_are_kept.ensures.shared core d seat kind sound e;
        chains = g.chains_are_kept.ensures.shared core d seat kind sound e;
        claims = g.claims_are_kept.ensures.shared core d seat kind sound e;
        marks = g.marks_are_kept.ensures.shared core d seat kind sound e;
        readers = g.readers_are_kept.ensures.shared core d seat kind sound e;
        decided = g.decisions_are_kept.ensures.shared core d seat kind sound e;
        rowed = g.rows_are_kept.ensures.shared core d seat kind sound e;
        log = g.log_is_kept.ensures.shared core d seat kind sound e;
      };
      own = λ p. record {
        ranges = g.ranges_are_kept.ensures.seats core d seat kind sound e p;
        clear = g.looks_stay_true.ensures.seats core d seat kind sound e p;
        begins = g.begins_are_kept.ensures.seats core d seat kind sound e p;
        task = g.tasks_are_kept.ensures.seats core d seat kind sound e p;
        bounds = g.bounds_are_kept.ensures.seats core d seat kind sound e p;
        lives = g.lives_are_kept.ensures.seats core d seat kind sound e p;
        made = g.numbers_are_kept.ensures.seats core d seat kind sound e p;
        cells = g.cells_are_kept.ensures.seats core d seat kind sound e p;
        chains = g.chains_are_kept.ensures.seats core d seat kind sound e p;
        attached = g.chains_are_kept.ensures.attached core d seat kind sound e p;
        claims = g.claims_are_kept.ensures.seats core d seat kind sound e p;
        snapshot = g.snapshots_are_kept.ensures.seats core d seat kind sound e p;
        marks = g.marks_are_kept.ensures.seats core d seat kind sound e p;
        readers = g.readers_are_kept.ensures.seats core d seat kind sound e p;
        decided = g.decisions_are_kept.ensures.seats core d seat kind sound e p;
        written = g.rows_are_kept.ensures.seats core d seat kind sound e p;
        log = g.log_is_kept.ensures.seats core d seat kind sound e p;
        back = g.backs_are_kept.ensures.seats core d seat kind sound e p;
        raised = g.snapshots_stay_raised.ensures core d seat kind sound e p;
      };
      both = λ p q ne. record {
        clear = g.looks_stay_true.ensures.pairs core d seat kind sound e p q ne;
        begins = g.begins_are_kept.ensures.pairs core d seat kind sound e p q ne;
        made = g.numbers_are_kept.ensures.pairs core d seat kind sound e p q ne;
        snapshot = g.snapshots_are_kept.ensures.pairs core d seat kind sound e p q ne;
        decided = g.decisions_are_kept.ensures.pairs core d seat kind sound e p q ne;
        back = g.backs_are_kept.ensures.pairs core d seat kind sound e p q ne;
      };
    }
