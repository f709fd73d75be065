use Rattle.std.proofs.Common.{◌∙◌, sym, ap, map}
use Rattle.std.specs.Prelude.{string_bytes}
use Rattle.command_words.specs.Places.{all_places, place_in}
use Rattle.command_words.proofs.PlacesLeft.{one_more}
use Rattle.command_words.proofs.reading.places_in.Goals as goal

pub loop-word-preserved : goal.loop-word-preserved
loop-word-preserved c =
    one_more c.args.words.now c.loop-word.word-index c.word-item.result c.in-Some.place c.loop-word.list.items c.push.new.self.items
    (all_places (map string_bytes c.args.words.now)) c.loop-word-test.true c.word-item.is
    (ap place_in (sym c.as_bytes.ensures.value) ∙ sym c.in_ok-place.ensures ∙ c.in-Some.is) c.in_ok-push-in-Some.ensures.items c.loop-word.invariant
