-- The code's station, as that of the formats.
use Rattle.formats.specs.declared.entries.Station as code
use Rattle.formats.specs.Formats.{Station}

abbrev pub station_in : code.Station → Station
station_in k = record { number = k.number.0; sought = k.sought; active = k.active; serial = k.serial }
