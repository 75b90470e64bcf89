-- All topics, in the order in which they are looked at (this project's): they stand in src/topics.
use Rattle.std.specs.Prelude.{ℕ, List, [], ◌++◌, map}
use Rattle.norprog_details.specs.declared.topics.inputs.TheConstants as inputs
use Rattle.norprog_details.specs.declared.topics.texts.TheConstants as texts
use Rattle.norprog_details.specs.declared.topics.tables.TheConstants as tables
use Rattle.norprog_details.specs.declared.topics.verdicts.TheConstants as verdicts
use Rattle.norprog_details.specs.declared.topics.reports.TheConstants as reports
use Rattle.norprog_details.specs.declared.topics.meanings.TheConstants as meanings
use Rattle.norprog_details.specs.declared.topics.listings.TheConstants as listings
use Rattle.norprog_details.specs.declared.topics.devices.TheConstants as devices

unfoldable pub topics : List (List ℕ × List ℕ)
topics =
    map {B = List ℕ × List ℕ} (λ topic. (topic.0.now, topic.1.now)) inputs.TOPICS.now
    ++ (map {B = List ℕ × List ℕ} (λ topic. (topic.0.now, topic.1.now)) texts.TOPICS.now
    ++ (map {B = List ℕ × List ℕ} (λ topic. (topic.0.now, topic.1.now)) tables.TOPICS.now
    ++ (map {B = List ℕ × List ℕ} (λ topic. (topic.0.now, topic.1.now)) verdicts.TOPICS.now
    ++ (map {B = List ℕ × List ℕ} (λ topic. (topic.0.now, topic.1.now)) reports.TOPICS.now
    ++ (map {B = List ℕ × List ℕ} (λ topic. (topic.0.now, topic.1.now)) meanings.TOPICS.now
    ++ (map {B = List ℕ × List ℕ} (λ topic. (topic.0.now, topic.1.now)) listings.TOPICS.now
    ++ (map {B = List ℕ × List ℕ} (λ topic. (topic.0.now, topic.1.now)) devices.TOPICS.now ++ [])))))))
