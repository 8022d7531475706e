-- The examples with tracks, evaluated.
use mathlib.Core.Path.{refl}
use Rattle.frame.specs.Frame.{bytes_of}
use Rattle.examples.specs.Reading.{opened_blank, ran_with, tracks_among}
use Rattle.platforms.specs.Tracks.{told_in, OpenedTracks, TracksInTurn, TracksSeen, TrackStates}

pub opened_tracks : OpenedTracks
unfolding opened_blank
opened_tracks = record { in_order = refl; by_post = refl; put_away = refl }

pub tracks_in_turn : TracksInTurn
unfolding bytes_of opened_blank ran_with tracks_among
tracks_in_turn = record { given = refl; kept = (refl, refl); put_away = (refl, refl) }

pub tracks_seen : TracksSeen
unfolding bytes_of opened_blank ran_with told_in
tracks_seen = record { under_way = (refl, refl); home = (refl, refl); put_away = refl }

pub track_states : TrackStates
unfolding bytes_of opened_blank ran_with
track_states = record { ahead = refl; here = refl; away = refl; past = refl }
