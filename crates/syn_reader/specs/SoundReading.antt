-- What the commands so far have made is sound: each of them keeps it so.
use Rattle.syn_reader.specs.declared.reading.Reading.{Reading}
use Rattle.syn_reader.specs.Soundness.{IsSound}

abbrev pub IsSoundReading : Reading → Type 0
IsSoundReading reading = IsSound reading.items reading.patterns reading.keywords
