-- Exact answers are sound.
use Rattle.c_program.specs.declared.program.Program.{Program}
use Rattle.static_facts.specs.Facts.{Facts}
use Rattle.static_facts.specs.Analyses.{AreExact, AreSound}

pub sound : (program : Program) (facts : Facts) → AreExact program facts → AreSound program facts
sound program facts exact = record {
  names = record {
    may_name = λ thread point argument location is. (exact.names.may_name thread point argument location is).all;
    is_exact = λ thread point argument location is. (exact.names.is_exact thread point argument location is).only;
  };
  accesses = λ thread point region manner is. (exact.accesses thread point region manner is).all;
  ordered = λ s t p q first second. (exact.ordered s t p q first second).only;
  thread_may_be = λ thread point object state is at. (exact.thread_may_be thread point object state is at).all;
  plain = exact.plain;
  life_may_be = λ thread point sort location state is none at. (exact.life_may_be thread point sort location state is none at).all;
}
