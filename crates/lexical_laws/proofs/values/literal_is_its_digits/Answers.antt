use Rattle.lexical_laws.proofs.Counting.{its_digits, first_counts}
use Rattle.lexical_laws.proofs.values.literal_is_its_digits.Goals as goal

pub returns-clause-literal : goal.returns-clause-literal
returns-clause-literal c = its_digits

pub returns-clause-first_digit : goal.returns-clause-first_digit
returns-clause-first_digit c = first_counts
