-- The place that the code has, as the definitions of the walk have it.
use Rattle.mapper.specs.declared.place.Place.{Place as CodePlace}
use Rattle.mapper.specs.Walking.{Place}

abbrev pub spot : CodePlace → Place
spot place = record { columns = place.columns; row = place.row; m = place.m; highest = place.highest }
