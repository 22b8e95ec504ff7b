use Rattle.wplaces.proofs.TileFacts.{length-tile_sizes, sum-tile_sizes, tile_has_row}
use Rattle.wplaces.proofs.laws.tiles_share_the_rows.Goals as goal

pub returns-clause-count : goal.returns-clause-count
returns-clause-count c = length-tile_sizes

pub returns-clause-shared : goal.returns-clause-shared
returns-clause-shared c = sum-tile_sizes

pub returns-clause-holds : goal.returns-clause-holds
returns-clause-holds c = tile_has_row
