use Rattle.wact.proofs.LongTables.{long_tables_alike}
use Rattle.wact.proofs.laws.long_table_is_refused_alike.Goals as goal

pub returns : goal.returns
returns c = long_tables_alike
