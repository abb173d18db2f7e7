-- Each case is computed.
use Rattle.std.proofs.Common.{refl, ap, ◌∙◌}
use Rattle.counter.specs.Counting.{level_after, no_level}
use Rattle.counter.specs.Sames.{same_counter, same_level}
use Rattle.settings.specs.Sames.{same_settings}
use Rattle.status.specs.Sames.{same_transitions}
use Rattle.cases.specs.Cases.{Cases, set_to}
use Rattle.cases.proofs.left_after.Goals as goal

cases : Cases
cases = record {
  nothing_entered = λ t. refl;
  taken_twice = refl;
  first_withdrawn = refl;
  second_withdrawn = refl;
  takings_compose = same_counter _ _ refl refl refl;
  second_value_wins = same_settings _ _ refl refl refl refl;
  pause_then_resume = same_transitions _ _ refl;
  raft_before = (refl, refl);
  at_equal_times = (refl, refl);
}

pub returns : goal.returns
returns c = record {
  left = λ set taken.
      c.carry.ensures
      ∙ ap (λ l. level_after c.args.second (level_after c.args.first l)) c.start_state.ensures
      ∙ ap (λ f. level_after c.args.second (level_after f no_level)) set
      ∙ ap (λ s. level_after s (level_after (set_to 100000 tt tt) no_level)) taken
      ∙ same_level _ _ refl;
  cases = cases;
}
