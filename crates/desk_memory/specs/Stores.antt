-- The tables that a store holds.
use Rattle.desk_tables.specs.Tables.{Tables}
use Rattle.desk_memory.specs.declared.store.Store.{Store}

abbrev pub tables_of : Store → Tables
tables_of s = record {
  projects = s.projects.items;
  findings = s.findings.items;
  deviations = s.deviations.items;
  permits = s.permits.items;
  kept = s.kept.items;
}
